-- The table of the live connections, where one of them changed or is gone.
use Rattle.std.proofs.Common.{◌≡◌, ◌∙◌, sym, ap, ℕ, ◌≤◌, List, Some, true, length, arith, remove, set, slice_get, length-set}
use Rattle.std.proofs.lemmas.List.Edits.{length-remove}
use Rattle.std.proofs.lemmas.Option.{slice_get_within}
use Rattle.number_table.specs.Table.{place_in}
use Rattle.proxy_core.specs.Ready.{numbers, is_in, place_of}
use Rattle.proxy_core.specs.declared.live.Live.{Live}
use Rattle.proxy_core.proofs.Places.{in_before, numbers_removed_at, numbers_set, placed, remove_set}

-- its numbers are those of its connections, none is above the last, and there are no more than before
pub record KeepsTable (last : ℕ) (ls : List Live) (ns' : List ℕ) (ls' : List Live) : Type 0 where
  pub numbered : ns' ≡ numbers ls'
  pub known : (n : ℕ) → is_in (numbers ls') n ≡ true → n ≤ last
  pub fewer : length ls' ≤ length ls

pub kept : (last at : ℕ) (ns ns' : List ℕ) (ls ls' : List Live) (l m : Live) → ns ≡ numbers ls → ((n : ℕ) → is_in (numbers ls) n ≡ true → n ≤ last)
    → slice_get ls at ≡ Some l → m.number ≡ l.number → ns' ≡ ns → ls' ≡ set ls at m → KeepsTable last ls ns' ls'
kept last at ns ns' ls ls' l m numbered known h same n i =
    let e = numbers_set at ls l m h same in record {
      numbered = n ∙ numbered ∙ sym e ∙ ap numbers (sym i);
      known = rw (i, e) known;
      fewer = rw i (omega (arith, length-set ls at m));
    }

pub gone : (last at : ℕ) (ns ns' : List ℕ) (ls ls' : List Live) (l m : Live) → ns ≡ numbers ls → ((n : ℕ) → is_in (numbers ls) n ≡ true → n ≤ last)
    → slice_get ls at ≡ Some l → ns' ≡ remove ns at → ls' ≡ remove (set ls at m) at → KeepsTable last ls ns' ls'
gone last at ns ns' ls ls' l m numbered known h n i =
    let j = i ∙ remove_set at ls m in record {
      numbered = n ∙ ap (λ k. remove k at) numbered ∙ sym (numbers_removed_at at ls) ∙ ap numbers (sym j);
      known = rw j (λ q g. known q (in_before at ls q g));
      fewer = rw j (omega (arith, length-remove ls at (slice_get_within ls at l h)));
    }

-- the place of a number in the table is that of its connection
pub place_there : (n at : ℕ) (ns : List ℕ) (ls : List Live) → ns ≡ numbers ls → place_in ns n ≡ Some at → place_of ls n ≡ Some at
place_there n at ns ls e p = sym (placed n ls) ∙ ap (λ k. place_in k n) (sym e) ∙ p
