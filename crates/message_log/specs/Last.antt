-- Where the DONEs of a log stand: rule 8 of document 01 sends them after all other messages.
use Rattle.std.specs.Prelude.{◌≡◌, List}
use Rattle.basics.specs.Lists.{AnyTwo}
use Rattle.tokens.specs.declared.Kind.TheVariants.{Done}
use Rattle.tokens.specs.Run.{Entry}

-- after a DONE come only DONEs
abbrev pub DonesLast : List Entry → Type 0
DonesLast entries = AnyTwo (λ (a b : Entry). a.message.kind ≡ Done → b.message.kind ≡ Done) entries
