-- An accepted call, part by part: what each part may ask, and that what they leave together is the outcome. Assumes nothing.
use mathlib.Core.Path.{◌≡◌, sym, ap, ◌∙◌}
use mathlib.Core.Bool.{cond}
use mathlib.Core.List.{List, [], ◌++◌}
use Prim.Native.Nat.{ℕ, ◌-◌, ◌*◌, ◌/◌, ◌≤◌, ◌<◌}
use native.Mathlib.Omega.{arith}
use lib.Dec.{ltb}
use lib.ListN.{length, take, drop, replicate, length-append}
use Rattle.basics.specs.Lists.{All}
use Rattle.basics.proofs.Lists.{all_follow, all_from}
use Rattle.site.specs.Limits.{most_radios}
use Rattle.site.specs.Map.{Site}
use Rattle.site.specs.Paths.{Path}
use Rattle.site.proofs.Valid.{Valid}
use Rattle.refusals.specs.Refusals.{Call, most_messages, verdict, number}
use Rattle.refusals.proofs.Accepted.{Room, accepted_valid, accepted_room}
use Rattle.tokens.specs.Rules.{Plan, start}
use Rattle.tokens.specs.Run.{Entry, notes_of, run_from, cut_of}
use Rattle.message_log.specs.Bytes.{message_bytes, log_bytes}
use Rattle.message_log.proofs.Bytes.{log-length}
use Rattle.message_log.proofs.Read.{filled_starts}
use Rattle.path_lists.specs.Bytes.{path_bytes, Holds}
use Rattle.path_lists.proofs.Walking.{holds_front}
use Rattle.buffers.specs.Zeros.{zeros_after}
use Rattle.outcome.specs.Leaves.{plan_of, run_of, paths_found, outcome}
use Rattle.demands.proofs.Demands.{any_budget, at_most, demand_2, demand_3, numbers_left, log-left, paths-left, cut-left, paths_of_the_map, log_ends_with_dones, never_ends_won}
use Rattle.routes.proofs.Duality.{path-below, path-few}
use Rattle.halves.specs.Bytes.{entered_of}
use Rattle.machine.specs.declared.Task.{Task}
use Rattle.running.specs.declared.Ran.{Ran}
use Rattle.running.specs.Run.{Leaves, Fresh, Runs}
use Rattle.paths.specs.declared.Listed.{Listed}
use Rattle.paths.specs.Listing.{LogOf, Listable, PathsLeft}
use Rattle.cut.specs.Cut.{Ends, AreRadios, Cuttable}
use Rattle.survey.specs.Parts.{Given, LeftBehind}
use Rattle.survey.proofs.Tails.{zeros-after}

module _ {task : Task} {links log paths cut : List ℕ} (given : Given task links log paths cut) where
  abbrev call : Call
  call = given.call

  abbrev site : Site
  site = given.call.site

  abbrev entries : List Entry
  entries = (run_of given.call).log

  no_refusal : number (verdict call) ≡ 0
  unfolding outcome
  no_refusal = given.accepted

  valid : Valid site
  valid = accepted_valid call no_refusal

  room : Room call
  room = accepted_room call no_refusal

  ends : Ends task.s task.t site
  ends = record { source = given.fresh.made.source; sink = given.fresh.made.sink }

  -- ---- the run

  pub runs : Runs task (length log / message_bytes) links log
  runs = record { plan = plan_of call; fresh = given.fresh; room = omega arith }

  -- the log that is lent is budget enough
  enough : most_messages site call.k ≤ length log / message_bytes
  enough = omega (arith, room.log, given.log-lent)

  -- what the run's own contract says of the log and the halves that it leaves
  abbrev pub RunLeaves : Ran → List ℕ → List ℕ → Type 0
  RunLeaves ran entered log' = (plan : Plan) → Fresh plan task links → Leaves (run_from plan (length log / message_bytes) (start plan)) ran entered log log'

  module _ {ran : Ran} {entered log' : List ℕ} (leaves : RunLeaves ran entered log') where
    ran_leaves : Leaves (run_of call) ran entered log log'
    ran_leaves = rw (any_budget call given.accepted (length log / message_bytes) enough) at (leaves (plan_of call) given.fresh)

    messages_bytes : length (log_bytes entries) ≡ message_bytes * ran.messages
    messages_bytes = log-length entries ∙ omega (arith, ran_leaves.messages)

    log_of : LogOf log' ran.messages task.s site entries
    log_of = record { source = given.fresh.made.source; number = sym ran_leaves.messages; bytes = filled_starts entries log log' ran_leaves.filled }

    -- the log as it is filled, by the number of its messages
    log_filled : log' ≡ log_bytes entries ++ drop (message_bytes * ran.messages) log
    log_filled = ran_leaves.filled ∙ ap (λ (n : ℕ). log_bytes entries ++ drop (message_bytes * n) log) (sym ran_leaves.messages)

    -- the messages fit the log that is lent
    pub log_room : message_bytes * ran.messages ≤ length log
    log_room = omega (arith, messages_bytes, (demand_3 call given.accepted).log_fits, given.log-lent)

    pub log_used : message_bytes * ran.messages ≤ length log'
    log_used = omega (arith, ap length log_filled, length-append (log_bytes entries) (drop (message_bytes * ran.messages) log), messages_bytes)

    -- ---- the path list

    pub listable : Listable log' ran.messages task.s paths
    unfolding paths_found
    listable =
        record {
          source = omega (arith, given.fresh.made.fits.source, given.fresh.made.fits.few);
          site = site;
          entries = entries;
          told = log_of;
          dones_last = log_ends_with_dones call given.accepted;
          few = short (paths_found call) (paths_of_the_map call given.accepted);
          room = omega (arith, (demand_3 call given.accepted).paths_fit, given.paths-lent);
        }
      where
        short : (ps : List (List ℕ)) → All (Path site) ps → All (λ (path : List ℕ). length path ≤ most_radios) ps
        short = all_follow (Path site) (λ path. length path ≤ most_radios) (λ path is. omega (arith, path-few valid is, valid.few_radios))

    -- what the writer of the path list says of what it leaves
    abbrev pub PathsWritten : Listed → List ℕ → Type 0
    PathsWritten listed paths' = (site : Site) (entries : List Entry) → LogOf log' ran.messages task.s site entries → PathsLeft site entries paths paths' listed

    module _ {listed : Listed} {paths' : List ℕ} (written : PathsWritten listed paths') where
      listed_left : PathsLeft site entries paths paths' listed
      listed_left = written site entries log_of

      -- ---- the cut list

      number_listed : listed.paths ≡ length (paths_found call)
      unfolding paths_found
      number_listed = listed_left.paths

      path-list : paths' ≡ path_bytes (paths_found call) ++ drop listed.used paths
      unfolding paths_found
      path-list = listed_left.written

      used_listed : listed.used ≡ length (path_bytes (paths_found call))
      unfolding paths_found
      used_listed = listed_left.used

      holds : Holds paths' listed.paths (paths_found call)
      holds = rw number_listed (holds_front paths' (paths_found call) (drop listed.used paths) path-list)

      radios : All AreRadios (paths_found call)
      radios = all_follow (Path site) AreRadios (λ path is. all_from (λ v. v < most_radios) path (λ v h. omega (arith, path-below valid is v h, valid.few_radios))) (paths_found call) (paths_of_the_map call given.accepted)

      not_more : listed.paths ≤ call.k
      not_more = omega (arith, number_listed, (demand_2 call given.accepted).number, at_most call given.accepted)

      pub cuttable : Cuttable paths' listed.paths cut
      cuttable = record { paths = paths_found call; held = holds; radios = radios; room = omega (arith, not_more, room.cut, given.cut-lent) }

      pub paths_used : listed.used ≤ length paths'
      paths_used = omega (arith, ap length path-list, length-append (path_bytes (paths_found call)) (drop listed.used paths), used_listed)

      -- ---- all together

      pub leaves_all : (log'' paths'' cut'' : List ℕ)
          → ((site : Site) (ps : List (List ℕ)) → Ends task.s task.t site → Holds paths' listed.paths ps → cut'' ≡ zeros_after (length cut) (cond (ltb listed.paths task.k) (cut_of site (entered_of entered) ps) []))
          → log'' ≡ take (message_bytes * ran.messages) log' ++ replicate (length log' - message_bytes * ran.messages) 0
          → paths'' ≡ take listed.used paths' ++ replicate (length paths' - listed.used) 0
          → LeftBehind call (record { refusal = 0; place = 0; paths = listed.paths; rounds = ran.rounds; messages = ran.messages }) log'' paths'' cut''
      leaves_all log'' paths'' cut'' cut-told log-cleared paths-cleared =
          record {
            numbers_are = rw (number_listed, ran_leaves.rounds, ran_leaves.messages) (sym (numbers_left call given.accepted));
            log_is =
                log-cleared ∙ ap (cleared (message_bytes * ran.messages)) log_filled ∙ zeros-after (log_bytes entries) log (message_bytes * ran.messages) (sym messages_bytes) log_room
                ∙ ap (λ (m : ℕ). zeros_after m (log_bytes entries)) given.log-lent ∙ sym (log-left call given.accepted);
            paths_are =
                paths-cleared ∙ ap (cleared listed.used) path-list ∙ zeros-after (path_bytes (paths_found call)) paths listed.used used_listed paths_room
                ∙ ap (λ (m : ℕ). zeros_after m (path_bytes (paths_found call))) given.paths-lent ∙ sym (paths-left call given.accepted);
            cut_is = cut-told site (paths_found call) ends holds ∙ same ∙ sym (cut-left call given.accepted);
          }
        where
          cleared : ℕ → List ℕ → List ℕ
          cleared n bytes = take n bytes ++ replicate (length bytes - n) 0

          paths_room : listed.used ≤ length paths
          paths_room = omega (arith, used_listed, (demand_3 call given.accepted).paths_fit, given.paths-lent)

          same : zeros_after (length cut) (cond (ltb listed.paths task.k) (cut_of site (entered_of entered) (paths_found call)) [])
              ≡ zeros_after call.cut_length (cond (ltb (length (paths_found call)) call.k) (cut_of site (notes_of (run_of call).last).entered (paths_found call)) [])
          same = λ i. zeros_after (given.cut-lent i) (cond (ltb (number_listed i) (sym given.fresh.made.wanted i)) (cut_of site (ran_leaves.entered_last (never_ends_won call given.accepted) i) (paths_found call)) [])
