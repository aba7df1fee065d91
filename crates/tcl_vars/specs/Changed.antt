-- A value that is there and becomes another in its place.
use Rattle.std.specs.Prelude.{◌≡◌, ◌≤◌, ℕ, ◌+◌, ℤ, List, length, Option, Some, None}
use Rattle.std.specs.Fmt.{signed_decimal}
use Rattle.px_bytes.specs.InPlace.{with_sum, behind}
use Rattle.tcl_vars.specs.Scopes.{Table, Level, Scopes, find_in, put_in, value_in, with_value_in}
use Rattle.tcl_vars.specs.Scopes.{value_at, with_value, level_bytes}
use Rattle.tcl_vars.specs.Tables.{IsInOrder}

-- what an old text becomes, if anything
abbrev pub Change : Type 0
Change = List ℕ → Option (List ℕ)

abbrev pub to_bytes : List ℕ → Change
to_bytes bytes old = Some bytes

abbrev pub to_number : ℤ → Change
to_number n old = Some (signed_decimal n)

abbrev pub by_sum : ℤ → Change
by_sum more old = with_sum old more

abbrev pub by_bytes : List ℕ → List ℕ → Change
by_bytes between more old = Some (behind old between more)

-- what the value that was found becomes is put in its place
pub record IsChanged {S : Type 0} (change : Change) (found : Option (List ℕ)) (put : List ℕ → S)
    (new : S) : Type 0 where
  pub old : List ℕ
  pub text : List ℕ
  pub there : found ≡ Some old
  pub becomes : change old ≡ Some text
  pub is : new ≡ put text

-- a table whose value of a name had and has so many bytes, at most so many more
pub record ChangedTable (change : Change) (most : ℕ) (name : List ℕ) (old new : Table (List ℕ))
    (before after : ℕ) : Type 0 where
  pub value : IsChanged change (find_in name old) (λ text. put_in name text old) new
  pub before_is : before ≡ length value.old
  pub after_is : after ≡ length value.text
  pub grows : after ≤ before + most
  pub in_order : IsInOrder old

-- a level whose bytes become at most so many more
pub record ChangedLevel (change : Change) (most : ℕ) (name : List ℕ) (old new : Level) : Type 0
  where
    pub value : IsChanged change (value_in old name None) (λ text. with_value_in name None text old)
        new
    pub grows : level_bytes new ≤ level_bytes old + most

-- a variable that was there has become another
abbrev pub ChangedVars : Change → List ℕ → Scopes → Scopes → Type 0
ChangedVars change name old new =
    IsChanged change (value_at old name None) (λ text. with_value name None text old) new
