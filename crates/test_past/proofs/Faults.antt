-- The lines behind those that questions asked for.
use Rattle.std.proofs.Common.{◌≡◌, ℕ, zero, suc, ◌+◌, ◌-◌, ◌<◌, ◌||◌, false, List, ◌∷◌, drop, get_or, length, Option, Some, None, refl, ap, sym, ◌∙◌, arith}
use Rattle.std.proofs.lemmas.Bool.Decides.{nat_tests}
use Rattle.std.specs.Prelude.{◌==◌, ◌&&◌}
use Rattle.std.specs.List.{list_any}
use Rattle.std.proofs.lemmas.List.{drop_more}
use Rattle.test_past.specs.Lines.{fault_at, is_fault, left_by, line_in, logged, with_line}
use Rattle.test_past.specs.declared.entry.RunEntry.{RunEntry}

is_more : (n : ℕ) → (suc n == 0) ≡ false
is_more n = grind (arith, nat_tests)

one_more : (o : Option (List ℕ)) (left : ℕ) (rest : List (List ℕ))
    → list_any is_fault (drop left (with_line o rest)) ≡ (fault_at o left || list_any is_fault (drop (left_by o left) rest))
one_more None left rest = refl
one_more (Some line) zero rest = refl
one_more (Some line) (suc left) rest =
    let less : left ≡ suc left - 1 = omega arith in
    ap (λ n. list_any is_fault (drop n rest)) less
    ∙ ap (λ b. (b && is_fault line) || list_any is_fault (drop (suc left - 1) rest)) (sym (is_more left))

pub next : (conn left i : ℕ) (entries : List RunEntry) (x : RunEntry) → i < length entries → x ≡ get_or entries i x
    → list_any is_fault (drop left (logged conn (drop i entries)))
    ≡ (fault_at (line_in conn x) left || list_any is_fault (drop (left_by (line_in conn x) left) (logged conn (drop (i + 1) entries))))
next conn left i entries x there is =
    ap (λ xs. list_any is_fault (drop left (logged conn xs))) (drop_more entries i x there ∙ ap (λ y. y ∷ drop (i + 1) entries) (sym is))
    ∙ one_more (line_in conn x) left (logged conn (drop (i + 1) entries))
