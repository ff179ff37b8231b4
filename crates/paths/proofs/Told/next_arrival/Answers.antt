-- `paths::Told::next_arrival` meets its contract. Assumes nothing.
use Rattle.std.proofs.Common.{arith, rules, tests}
use Rattle.std.proofs.lemmas.Iterator.{first_from_Range}
use Rattle.message_log.specs.Read.{raw_at}
use Rattle.paths.specs.Listing.{Arrives}
use Rattle.paths.proofs.Log.{found_first}
use Rattle.paths.proofs.Told.next_arrival.Goals as goal

pub returns : goal.returns
returns c =
    let log = c.args.self.log.now in
    found_first c.find.result c.requires (first_from_Range _ c.find.new.self _ c.find.result (λ at. Arrives (raw_at log at)) (λ at. Arrives (raw_at log at) → ⊥) c.find.ensures.ran
    (λ at q called. record { done = grind (arith, tests); into = grind (arith, tests) })
    (λ at q called. (search rules, λ is. let done = is.done in let into = is.into in grind (arith, tests))))
