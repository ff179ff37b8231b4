-- What the contracts of the judge say of what it has seen.
use Rattle.std.specs.Prelude.{◌≡◌, Bool, true, false, List, ℕ, Option, MatchOption}
use Rattle.basics.specs.Lists.{among}
use Rattle.radios.specs.Member.{member}
use Rattle.path_lists.specs.declared.Seen.{Seen}

-- a set of radios that has those of a list
abbrev pub IsSet : ℕ → List ℕ → Type 0
IsSet set list = (v : ℕ) → member v set ≡ among v list

-- these radios, and the direct link taken or not
pub record Sees (radios : List ℕ) (taken : Bool) (seen : Seen) : Type 0 where
  pub direct_is : seen.direct ≡ taken
  pub set_is : IsSet seen.set radios

-- that is seen if all is in order; if not, there is nothing to see
abbrev pub SeesIf : Bool → List ℕ → Bool → Option Seen → Type 0
SeesIf fine radios taken seen = MatchOption seen (fine ≡ false) (λ s. (fine ≡ true) × Sees radios taken s)
