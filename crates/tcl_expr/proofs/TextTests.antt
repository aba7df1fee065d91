-- Tests of one text by another.
use Rattle.std.proofs.Common.{◌≡◌, ℕ, ◌≤◌, true, List, length, take, drop, nat_eq}
use Rattle.std.proofs.Common.{Option, Some, None, is_some, sym, ap, arith}
use Rattle.std.specs.List.{starts_with}
use Rattle.std.proofs.lemmas.Bool.{false_from_ne_true}
use Rattle.std.proofs.lemmas.List.{length-take, length-drop}
use Rattle.std.proofs.lemmas.Slice.Eq.{bytes_eq-Decides}
use Rattle.memchr.specs.Find.{OccursAt, FindsNeedle}
use Rattle.memchr.proofs.lemmas.MatchLemmas.{OccursAt-part, OccursAt-from_part}
use Rattle.px_bytes.proofs.GlobTests.{some_end_at, some_end_found}
use Rattle.tcl_expr.specs.TextTests.{contains}

module _ (text part : List ℕ) where
  part_there : (k : ℕ) → OccursAt text part k → starts_with nat_eq (drop k text) part ≡ true
  part_there k occurs = (bytes_eq-Decides part (take (length part) (drop k text))).1 (sym (OccursAt-part text part k occurs))

  part_found : (k : ℕ) → k ≤ length text → starts_with nat_eq (drop k text) part ≡ true → OccursAt text part k
  part_found k within h =
      let same : part ≡ take (length part) (drop k text) = (bytes_eq-Decides part (take (length part) (drop k text))).0 h in
      let size : length part ≡ length (take (length part) (drop k text)) = ap length same in
      OccursAt-from_part text part k (omega (arith, length-take (length part) (drop k text), length-drop k text)) (sym same)

  pub finds_part : (r : Option ℕ) → FindsNeedle text part 0 r → is_some r ≡ contains text part
  finds_part (Some k) h = sym (some_end_at (λ end. starts_with nat_eq end part) text k (part_there k h.1))
  finds_part None h =
      sym (false_from_ne_true _ (λ has. let f = some_end_found (λ end. starts_with nat_eq end part) text has in h f.place (omega arith) (omega (arith, f.within)) (part_found f.place f.within f.there)))
