-- "The token rules" of document 01, 1 to 7, as one inner step of the machine: it sends a message and delivers it, or the run is over.
-- `cond b x y` reads: x if b holds, else y.
use Rattle.std.specs.Prelude.{Bool, true, false, not, ◌&&◌, ◌||◌, cond, ℕ, suc, ◌+◌, ◌-◌, eqb, ltb}
use Rattle.basics.specs.Counting.{first_from}
use Rattle.site.specs.Map.{Site, in_half, out_half, radio_of, is_out, step}
use Rattle.tokens.specs.declared.Kind.{Kind}
use Rattle.tokens.specs.declared.Kind.TheVariants.{Pdt, PdtB, Pmt, Done}
use Rattle.tokens.specs.declared.Message.{Message}

abbrev pub message : Kind → ℕ → ℕ → Message
message kind from to = record { kind = kind; from = from; to = to }

-- ---- what a run is made from

-- the step from half a to half b is marked
abbrev pub Marks : Type 0
Marks = ℕ → ℕ → Bool

-- the map with its two ends, the number of paths wanted, rule 3's order of trying, and what the run starts with: so many paths, and their marks
pub record Plan : Type 0 where
  pub site : Site
  pub k : ℕ
  pub order : ℕ → ℕ
  pub kept : ℕ
  pub marks : Marks

-- ---- what the machine keeps

-- half h has been entered in this round
abbrev pub Entered : Type 0
Entered = ℕ → Bool

-- the number of rounds started, of paths found, the marks, and the halves entered in the round
pub record Notes : Type 0 where
  pub round : ℕ
  pub found : ℕ
  pub marks : Marks
  pub entered : Entered

-- the halves that have sent a PDT and had no reply, the last one first, each with the first place of its order that it has not tried
pub data Waiting : Type 0 where
  nobody : Waiting
  waits : ℕ → ℕ → Waiting → Waiting

-- what happens next
pub data State : Type 0 where
  -- the half on top of those that wait searches
  searching : Notes → Waiting → State
  -- this half was entered before, and owes PDT_B to the one on top
  declining : ℕ → Notes → Waiting → State
  -- this half owes PMT to the one on top
  granting : ℕ → Notes → Waiting → State
  -- S has had its PMT: the round is over
  won : Notes → State
  -- the DONE that S sent to this radio has come to this half
  carrying : ℕ → ℕ → Notes → State

-- one inner step: a message, and the state once it is delivered; or the end of the run
pub data Next : Type 0 where
  sends : Message → State → Next
  over : Next

-- ---- rule 2

-- at the start of a round S's out half counts as entered and no other half does
abbrev pub only_s : Site → Entered
only_s site h = eqb h (out_half site.S)

-- the next round begins: S's out half searches
abbrev pub begun : Site → Notes → Notes
begun site notes = record { round = suc notes.round; found = notes.found; marks = notes.marks; entered = only_s site }

abbrev pub just_s : Site → Waiting
just_s site = waits (out_half site.S) 0 nobody

-- ---- rule 3

-- half x can walk to half y now: forwards over an unmarked step, or backwards over a marked one
unfoldable pub may_walk : Site → Marks → ℕ → ℕ → Bool
may_walk site marks x y = (step site x y && not (marks x y)) || (step site y x && marks y x)

-- what half h may try is numbered: a number below n is another radio, n is its own other half
unfoldable pub candidate : Site → ℕ → ℕ → ℕ
candidate site h number = cond (ltb number site.n) (cond (is_out h) (in_half number) (out_half number)) (cond (is_out h) (h - 1) (h + 1))

-- half h can walk to that now. Its own radio's number is no other radio's, and is passed over
unfoldable pub can_try : Site → Marks → ℕ → ℕ → Bool
can_try site marks h number = not (eqb number (radio_of h)) && may_walk site marks h (candidate site h number)

-- the order of trying gives the number at each of the places 0 to n: other radios by rising number, then its own other half last
abbrev pub rising : ℕ → ℕ
rising place = place

-- the first place from this one on that half h can walk to now; n + 1 where there is none
unfoldable pub next_place : Plan → Marks → ℕ → ℕ → ℕ
next_place plan marks h place = first_from (λ i. can_try plan.site marks h (plan.order i)) place (plan.site.n + 1)

-- ---- rules 4 and 5

abbrev pub entering : ℕ → Notes → Notes
entering h notes = record { round = notes.round; found = notes.found; marks = notes.marks; entered = λ x. eqb x h || notes.entered x }

-- half h gets a PDT from the half on top. The two tests: it is T's in half; it was entered before
unfoldable pub gets : Bool → Bool → ℕ → Notes → Waiting → State
gets true before h notes waiting = granting h (entering h notes) waiting
gets false true h notes waiting = declining h notes waiting
gets false false h notes waiting = searching (entering h notes) (waits h 0 waiting)

-- ---- rule 7

-- the first radio from v on with a marked step from half h to it; n where there is none
unfoldable pub next_marked : Site → Marks → ℕ → ℕ → ℕ
next_marked site marks h v = first_from (λ w. marks h (in_half w)) v site.n

-- half h passes DONE over its marked link step to radio w, if there is one. S sent it to radio v
unfoldable pub pass_on : Site → ℕ → ℕ → ℕ → Notes → Next
pass_on site h v w notes = cond (ltb w site.n) (sends (message Done h (in_half w)) (carrying v (in_half w) notes)) over

-- S sends DONE to the first radio from v on with a marked step from S; where there is none, all is done
unfoldable pub release : Site → ℕ → Notes → Next
release site v notes = let w = next_marked site notes.marks (out_half site.S) v in pass_on site (out_half site.S) w w notes

-- DONE is at half h. The two tests: it is T's in half; it is an out half. An in half passes it to its own out half
unfoldable pub carry : Bool → Bool → Site → ℕ → ℕ → Notes → Next
carry true out site v h notes = release site (suc v) notes
carry false true site v h notes = pass_on site h v (next_marked site notes.marks h 0) notes
carry false false site v h notes = sends (message Done h (h + 1)) (carrying v (h + 1) notes)

-- ---- rules 3 and 6: a half that searches

-- half h has found the place of its next PDT, or none: then it replies PDT_B, and S fails the round
unfoldable pub tries : Bool → Plan → ℕ → ℕ → Notes → Waiting → Next
tries true plan h place notes rest =
    let y = candidate plan.site h (plan.order place) in
    sends (message Pdt h y) (gets (eqb y (in_half plan.site.T)) (notes.entered y) y notes (waits h (suc place) rest))
tries false plan h place notes nobody = release plan.site 0 notes
tries false plan h place notes (waits asker i rest) = sends (message PdtB h asker) (searching notes (waits asker i rest))

unfoldable pub search : Plan → Notes → Waiting → Next
search plan notes nobody = over
search plan notes (waits h i rest) = let place = next_place plan notes.marks h i in tries (ltb place (plan.site.n + 1)) plan h place notes rest

-- ---- rule 6: PMT

-- the mark of the step between halves h and y, whichever way it leads, is reversed
unfoldable pub reversed : Site → ℕ → ℕ → Marks → Marks
reversed site h y marks a b = cond (step site a b && ((eqb a h && eqb b y) || (eqb a y && eqb b h))) (not (marks a b)) (marks a b)

abbrev pub turning : Site → ℕ → ℕ → Notes → Notes
turning site h y notes = record { round = notes.round; found = notes.found; marks = reversed site h y notes.marks; entered = notes.entered }

-- one path more
abbrev pub one_path_more : Notes → Notes
one_path_more notes = record { round = notes.round; found = suc notes.found; marks = notes.marks; entered = notes.entered }

-- half y replies PMT to the half on top, which reverses their step's mark and replies PMT in its turn, or is S, whose round is won
unfoldable pub grant : Site → ℕ → Notes → Waiting → Next
grant site y notes nobody = over
grant site y notes (waits h i nobody) = sends (message Pmt y h) (won (one_path_more (turning site h y notes)))
grant site y notes (waits h i (waits asker j rest)) = sends (message Pmt y h) (granting h (turning site h y notes) (waits asker j rest))

-- half y replies PDT_B to the half on top, which goes on searching
unfoldable pub decline : ℕ → Notes → Waiting → Next
decline y notes nobody = over
decline y notes (waits h i rest) = sends (message PdtB y h) (searching notes (waits h i rest))

-- ---- rule 1

-- a round is won: another starts while fewer than k paths are found, else S sends DONE
unfoldable pub go_on : Bool → Plan → Notes → Next
go_on true plan notes = search plan (begun plan.site notes) (just_s plan.site)
go_on false plan notes = release plan.site 0 notes

-- ---- one inner step

unfoldable pub inner_step : Plan → State → Next
inner_step plan (searching notes waiting) = search plan notes waiting
inner_step plan (declining y notes waiting) = decline y notes waiting
inner_step plan (granting y notes waiting) = grant plan.site y notes waiting
inner_step plan (won notes) = go_on (ltb notes.found plan.k) plan notes
inner_step plan (carrying v h notes) = carry (eqb h (in_half plan.site.T)) (is_out h) plan.site v h notes

-- before the first round
abbrev pub at_first : Plan → Notes
at_first plan = record { round = 0; found = plan.kept; marks = plan.marks; entered = λ h. false }

-- round 1 begins at once, if the paths kept are not all that are wanted
unfoldable pub start : Plan → State
start plan = cond (ltb plan.kept plan.k) (searching (begun plan.site (at_first plan)) (just_s plan.site)) (won (at_first plan))

-- at the start all steps are unmarked
abbrev pub unmarked : Marks
unmarked a b = false
