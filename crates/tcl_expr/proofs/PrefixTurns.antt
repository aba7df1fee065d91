-- The turns of the operators before an operand.
use Rattle.std.proofs.Common.{◌≡◌, ℕ, zero, suc, ◌+◌, ◌-◌, ◌<◌, ◌≤◌, List, [], ◌∷◌, ◌++◌, length}
use Rattle.std.proofs.Common.{Option, Some, None, refl, sym, ap, ◌∙◌, arith}
use Rattle.std.proofs.lemmas.List.{append_assoc, append-nil}
use Rattle.tcl_words.specs.Skips.{turns}
use Rattle.tcl_expr.specs.ExpressionReading.{prefixes_at, with_prefix}
use Rattle.tcl_expr.specs.Tokens.{prefix_at, white_end}
use Rattle.tcl_expr.specs.declared.operator.Op1.{Op1}

-- what isn't there
pub none_left : {A : Type 0} (o : Option A) → ((x : A) → o ≡ Some x → ⊥) → o ≡ None
none_left None h = refl
none_left (Some x) h = absurd (h x refl)

abbrev behind : List Op1 → List Op1 × ℕ → List Op1 × ℕ
behind ops r = (ops ++ r.0, r.1)

module _ (k : ℕ) (text : List ℕ) where
  -- the operators so far stand before those from the place on
  pub record PrefixesTo (start : ℕ) (ops : List Op1) (at : ℕ) : Type 0 where
    pub n : ℕ
    pub enough : length text < n + at
    pub same : prefixes_at k text (turns text) start ≡ behind ops (prefixes_at k text n at)

  pub prefixes_begin : (at : ℕ) → PrefixesTo at [] at
  prefixes_begin at = record { n = turns text; enough = omega arith; same = refl }

  goes_on : (n at : ℕ) (op : Op1) (end : ℕ) → 0 < n → prefix_at k text at ≡ Some (op, end)
      → prefixes_at k text n at
      ≡ behind (op ∷ []) (prefixes_at k text (n - 1) (white_end text end))
  unfolding prefixes_at
  goes_on zero at op end h e = absurd (omega arith)
  goes_on (suc n) at op end h e =
      let less : suc n - 1 ≡ n = omega arith in
      ap (with_prefix text at (prefixes_at k text n)) e
      ∙ ap (λ m. behind (op ∷ []) (prefixes_at k text m (white_end text end))) (sym less)

  stops : (n at : ℕ) → prefix_at k text at ≡ None → prefixes_at k text n at ≡ ([], at)
  unfolding prefixes_at
  stops zero at e = refl
  stops (suc n) at e = ap (with_prefix text at (prefixes_at k text n)) e

  pub prefixes_turn : (start at : ℕ) (ops : List Op1) (op : Op1) (end next : ℕ) → at ≤ length text
      → prefix_at k text at ≡ Some (op, end) → next ≡ white_end text end → at < next
      → PrefixesTo start ops at → PrefixesTo start (ops ++ op ∷ []) next
  prefixes_turn start at ops op end next within e is on so =
      let less = goes_on so.n at op end (omega (arith, so.enough)) e in
      let rest = prefixes_at k text (so.n - 1) next in
      record {
        n = so.n - 1;
        enough = omega (arith, so.enough);
        same = so.same ∙ ap (behind ops) less
            ∙ ap (λ m. behind ops (behind (op ∷ []) (prefixes_at k text (so.n - 1) m))) (sym is)
            ∙ ap (λ l. (l, rest.1)) (sym (append_assoc ops (op ∷ []) rest.0));
      }

  pub prefixes_end : (start at : ℕ) (ops : List Op1) → prefix_at k text at ≡ None
      → PrefixesTo start ops at → prefixes_at k text (turns text) start ≡ (ops, at)
  prefixes_end start at ops e so =
      so.same ∙ ap (behind ops) (stops so.n at e) ∙ ap (λ l. (l, at)) (append-nil ops)
