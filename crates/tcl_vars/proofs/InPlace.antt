-- A table and a level a value of which became another in its place.
use Rattle.std.proofs.Common.{◌≡◌, ◌≤◌, ℕ, ◌+◌, List, [], ◌∷◌, ◌++◌, length, length-append, Bool, true, false, Some, None, sym, ap, subst, ◌∙◌, arith}
use Rattle.std.specs.Bool.{OnTrue}
use Rattle.std.specs.List.Sorted.{IsStrictlySortedBy}
use Rattle.px_bytes.specs.InPlace.{behind}
use Rattle.std.specs.Map.{keys_of, lookup, set_value}
use Rattle.tcl_vars.specs.Changed.{Change, ChangedTable, ChangedLevel, ChangedVars}
use Rattle.tcl_vars.specs.Scopes.{Table, Level, Scopes, put_in, level_bytes, with_value_in, is_static}
use Rattle.tcl_vars.specs.Tables.{IsInOrder}
use Rattle.tcl_vars.proofs.LevelBytes.{level_bytes-with, old_value_fits}
use Rattle.tcl_vars.proofs.Named.{named, by_name, is_named, found_in, in_order-named, set_found-named}

-- no more come than both have
pub length-behind : (old between more : List ℕ) → length (behind old between more) ≤ length old + (length between + length more)
length-behind [] between more = omega arith
length-behind (b ∷ bs) between more = omega (arith, length-append bs (between ++ more), length-append between more)

-- the entry that was found takes the text
pub changed_table : {K : Type 0} (key : K → List ℕ) (change : Change) (most : ℕ) (name : List ℕ) (es fs : List (K × List ℕ)) (t : Table (List ℕ)) (old text : List ℕ) (before after : ℕ)
    → named key es ≡ t → IsStrictlySortedBy (by_name key) (keys_of es) → Some old ≡ lookup (is_named key name) es → fs ≡ set_value (is_named key name) es text
    → change old ≡ Some text → before ≡ length old → after ≡ length text → after ≤ before + most
    → ChangedTable change most name t (named key fs) before after
changed_table key change most name es fs t old text before after seen sorted found set becomes before_is after_is grows = record {
  value = record {
    old = old;
    text = text;
    there = found_in key name es seen found;
    becomes = becomes;
    is = ap (named key) set ∙ set_found-named key name es old text sorted (sym found) ∙ ap (λ u. put_in name text u) seen;
  };
  before_is = before_is;
  after_is = after_is;
  grows = grows;
  in_order = subst (λ u. IsInOrder u) seen (in_order-named key es sorted);
}

-- ---- the level of a table that changed
module _ {change : Change} {most : ℕ} {name : List ℕ} {before after : ℕ} (level : Level) (plain : Table (List ℕ)) (c : ChangedTable change most name level.plain plain before after) where
  abbrev pub with_plain : Level
  with_plain = record level { plain = plain }

  is_with : with_plain ≡ with_value_in name None c.value.text level
  is_with = ap (λ p. let new : Level = record level { plain = p } in new) c.value.is

  pub before_fits : before ≤ level_bytes level
  before_fits = omega (arith, c.before_is, old_value_fits level name None c.value.old c.in_order (sym c.value.there))

  pub bytes_changed : level_bytes with_plain + before ≡ level_bytes level + after
  bytes_changed =
      let e = rw c.value.there at (level_bytes-with level name None c.value.text c.in_order) in
      omega (arith, e, c.before_is, c.after_is, ap level_bytes is_with)

  pub changed_level : ChangedLevel change most name level with_plain
  changed_level = record {
    value = record { old = c.value.old; text = c.value.text; there = c.value.there; becomes = c.value.becomes; is = is_with };
    grows = omega (arith, bytes_changed, c.grows);
  }

-- ---- the variables whose innermost level changed
pub changed_vars : (change : Change) (most : ℕ) (name : List ℕ) (statics level new : Level) (outer : List Level) (done : Bool) → is_static name ≡ false
    → OnTrue done (ChangedLevel change most name level new)
    → OnTrue done (ChangedVars change name (record { statics = statics; levels = level ∷ outer }) (record { statics = statics; levels = new ∷ outer }))
changed_vars change most name statics level new outer false own c = tt
changed_vars change most name statics level new outer true own c = record {
  old = c.value.old;
  text = c.value.text;
  there = rw own c.value.there;
  becomes = c.value.becomes;
  is = rw own (ap (λ l. let vars : Scopes = record { statics = statics; levels = l ∷ outer } in vars) c.value.is);
}
