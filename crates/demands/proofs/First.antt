-- Demand 1 holds for every call. Assumes nothing.
use mathlib.Core.Path.{◌≡◌}
use mathlib.Core.Bool.{false}
use mathlib.Core.List.{[]}
use lib.Dec.{eqb}
use lib.ListN.{replicate}
use native.Mathlib.Nat.{sub-zero}
use borrow.Author.Tests.{ne_eqb}
use Rattle.refusals.specs.Refusals.{Call, verdict, number}
use Rattle.refusals.proofs.Exactly.{call_exact, no_place}
use Rattle.outcome.specs.Leaves.{outcome, log_left, paths_left, cut_left}
use Rattle.buffers.specs.Zeros.{zeros_after}
use Rattle.demands.specs.Demand1.{NothingLeft, Demand1}
use Prim.Native.Nat.{ℕ}

all_zeros : (size : ℕ) → zeros_after size [] ≡ replicate size 0
all_zeros size = rw sub-zero

nothing_left : (call : Call) → (number (verdict call) ≡ 0 → ⊥) → NothingLeft call
unfolding outcome log_left paths_left cut_left
nothing_left call refused =
    let no : eqb (number (verdict call)) 0 ≡ false = ne_eqb _ _ refused in
    record {
      paths = rw no;
      rounds = rw no;
      messages = rw no;
      log = rw no (all_zeros call.log_length);
      path_list = rw no (all_zeros call.paths_length);
      cut_list = rw no (all_zeros call.cut_length);
    }

pub demand_1 : (call : Call) → Demand1 call
unfolding outcome
demand_1 call =
    let exact = call_exact call in
    record { refused = exact.law.given; accepted = exact.law.none; place_of_cell = exact.cell; no_place = no_place (verdict call); nothing_left = nothing_left call }
