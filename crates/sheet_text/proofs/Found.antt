-- The sheet of a survey, part by part: it has room, and the parts together are the sheet. Assumes nothing.
use mathlib.Core.Path.{◌≡◌, sym, ap, ap₂, ◌∙◌, subst}
use mathlib.Core.Bool.{Bool}
use mathlib.Core.List.{List, [], ◌++◌, append_assoc, append-nil}
use Prim.Native.Nat.{ℕ, ◌-◌, ◌≤◌}
use native.Mathlib.Decide.{ℕ_discrete}
use native.Mathlib.Omega.{arith}
use mir.Syntax.{w8}
use mir.Val.{Fits}
use lib.Dec.{eqb}
use lib.ListN.{length, get_or, take, drop, replicate, length-append, length-drop}
use lib.Seq.{take_at}
use borrow.Author.Tests.{eq-eqb, ne_eqb}
use Rattle.buffers.specs.Zeros.{zeros_after}
use Rattle.outcome.specs.declared.Outcome.{Outcome}
use Rattle.path_lists.specs.Bytes.{path_bytes, Holds}
use Rattle.path_lists.proofs.Walking.{holds_front}
use Rattle.sheet_lines.specs.Lines.{refused_line, report_line, path_lines, cut_lines}
use Rattle.sheet_lines.specs.Room.{HasRoom, Printable}
use Rattle.sheet_lines.proofs.Lines.{sheet-in-parts}
use Rattle.sheet_lines.proofs.Room.{Small, Moderate, refused-fits, sheet-fits, small_bytes, small_take, small_paths}
use Rattle.text_survey.specs.declared.Surveyed.{Surveyed}
use Rattle.text_survey.specs.Survey.{paths_lent, cut_lent, TextSurvey}
use Rattle.text_survey.specs.Delivered.{Bounded, Delivered}
use Rattle.sheet_text.specs.Sheet.{sheet_of, sheet_room}

-- the sheet copied to the start of the buffer, and zeros after it
pub rest_cleared : (out : List ℕ) {out' copied sheet : List ℕ} {used : ℕ} → out' ≡ take used (copied ++ drop used out) ++ replicate (length (copied ++ drop used out) - used) 0
    → copied ≡ sheet → used ≡ length sheet → used ≤ length out → out' ≡ zeros_after (length out) sheet
rest_cleared out {out'} {copied} {sheet} {used} cleared is size h =
    let left : length (sheet ++ drop used out) - used ≡ length out - length sheet = omega (arith, length-append sheet (drop used out), length-drop used out) in
    cleared ∙ rw is (ap₂ (λ (front : List ℕ) (m : ℕ). front ++ replicate m 0) (take_at sheet (drop used out) used (sym size)) left)

module _ {survey : TextSurvey} {found : Surveyed} {paths cut : List ℕ} (delivered : Delivered survey found paths cut) where
  abbrev o : Outcome
  o = found.outcome

  -- the survey, by the numbers that came with the lists
  abbrev own : TextSurvey
  own = record { numbers = found; paths = survey.paths; cut = survey.cut }

  same : own ≡ survey
  same = ap (λ (n : Surveyed). record { numbers = n; paths = survey.paths; cut = survey.cut }) delivered.numbers_are

  bounded : Bounded own
  bounded = subst Bounded (sym same) delivered.bounded

  -- ---- a refusal

  pub refused_room : {blank : List ℕ} → blank ≡ [] → HasRoom sheet_room blank (refused_line o.refusal o.place)
  refused_room none = rw none (omega (arith, refused-fits o.refusal o.place (omega (arith, bounded.refusal)) (omega (arith, bounded.place))))

  pub refused_sheet : {blank sheet : List ℕ} → blank ≡ [] → (o.refusal ≡ 0 → ⊥) → sheet ≡ blank ++ refused_line o.refusal o.place → sheet ≡ sheet_of survey
  unfolding sheet_of
  refused_sheet {blank} {sheet} none refused w = subst (λ (s : TextSurvey). sheet ≡ sheet_of s) same (rw (ne_eqb o.refusal 0 refused) (rw none at w))

  -- ---- the lists

  pub listed : Holds paths o.paths survey.paths
  listed =
      subst (λ (n : ℕ). Holds paths n survey.paths) bounded.number
      (holds_front paths survey.paths (replicate (paths_lent - length (path_bytes survey.paths)) 0) delivered.paths_are)

  -- where a path is lacking there is an item for each that was found
  items_are : (o.paths ≡ found.wanted → ⊥) → take o.paths cut ≡ survey.cut
  items_are lacking = ap (take o.paths) delivered.cut_is ∙ take_at survey.cut (replicate (cut_lent - length survey.cut) 0) o.paths (bounded.items lacking)

  module _ (path_bytes_fit : (i : ℕ) → Fits w8 (get_or paths i 0)) (cut_bytes_fit : (i : ℕ) → Fits w8 (get_or cut i 0)) where
    small_items : Dec (o.paths ≡ found.wanted) → Small survey.cut
    small_items (yes e) = rw (bounded.full e) tt
    small_items (no lacking) = rw (← items_are lacking) (small_take o.paths cut (small_bytes cut cut_bytes_fit))

    -- ---- the whole sheet

    moderate : Moderate found.capture o.paths o.rounds o.messages survey.paths survey.cut
    moderate =
        record {
          capture_number = omega (arith, bounded.capture);
          found_number = omega (arith, bounded.few_paths);
          round_number = omega (arith, bounded.few_rounds);
          message_number = omega (arith, bounded.few_messages);
          few_paths = omega (arith, bounded.number, bounded.few_paths);
          short_list = bounded.paths_fit;
          small_radios = small_paths listed (small_bytes paths path_bytes_fit);
          few_items = bounded.cut_fits;
          small_items = small_items (ℕ_discrete o.paths found.wanted);
        }

    abbrev all : Bool
    all = eqb o.paths found.wanted

    abbrev first : List ℕ
    first = report_line found.capture all o.paths o.rounds o.messages []

    abbrev middle : List ℕ
    middle = path_lines 1 survey.paths []

    abbrev last : List ℕ
    last = cut_lines 1 survey.cut

    in_parts : report_line found.capture all o.paths o.rounds o.messages (path_lines 1 survey.paths last) ≡ first ++ (middle ++ last)
    in_parts = sheet-in-parts found.capture all o.paths o.rounds o.messages survey.paths last

    whole : o.refusal ≡ 0 → first ++ (middle ++ last) ≡ sheet_of survey
    unfolding sheet_of
    whole accepted = sym in_parts ∙ subst (λ (s : TextSurvey). report_line found.capture all o.paths o.rounds o.messages (path_lines 1 survey.paths last) ≡ sheet_of s) same (rw (eq-eqb o.refusal 0 accepted))

    fits : length (first ++ (middle ++ last)) ≤ sheet_room
    fits = subst (λ (l : List ℕ). length l ≤ sheet_room) in_parts (sheet-fits found.capture all o.paths o.rounds o.messages survey.paths survey.cut moderate)

    -- ---- its three parts, one after the other

    module _ {blank : List ℕ} (none : blank ≡ []) where
      pub report_room : HasRoom sheet_room blank first
      report_room = rw none (omega (arith, fits, length-append first (middle ++ last)))

      module _ {reported : List ℕ} (report_is : reported ≡ blank ++ first) where
        pub paths_room : Printable sheet_room reported paths o.paths
        paths_room =
            record {
              paths = survey.paths;
              listed = listed;
              room = omega (arith, fits, ap length none, ap length report_is, length-append blank first, length-append first (middle ++ last), length-append middle last);
            }

        module _ {written : List ℕ} (paths_are : written ≡ reported ++ middle) where
          -- both parts, and what is still to come
          two_parts : (rest : List ℕ) → written ++ rest ≡ first ++ (middle ++ rest)
          two_parts rest = rw (paths_are, report_is, none) (append_assoc first middle rest)

          pub full_sheet : o.refusal ≡ 0 → o.paths ≡ found.wanted → written ≡ sheet_of survey
          unfolding cut_lines
          full_sheet accepted e = sym (append-nil written) ∙ two_parts [] ∙ ap (λ (l : List ℕ). first ++ (middle ++ cut_lines 1 l)) (sym (bounded.full e)) ∙ whole accepted

          module _ (lacking : o.paths ≡ found.wanted → ⊥) where
            pub items_room : HasRoom sheet_room written (cut_lines 1 (take o.paths cut))
            items_room = rw (items_are lacking) (omega (arith, fits, ap length (two_parts last), length-append written last))

            pub short_sheet : {sheet : List ℕ} → o.refusal ≡ 0 → sheet ≡ written ++ cut_lines 1 (take o.paths cut) → sheet ≡ sheet_of survey
            short_sheet accepted w = rw (items_are lacking) at w ∙ two_parts last ∙ whole accepted
