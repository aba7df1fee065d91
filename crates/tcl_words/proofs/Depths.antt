-- The turns of the scan for a construct's end.
use Rattle.std.proofs.Common.{◌≡◌, ℕ, zero, suc, ◌+◌, ◌-◌, ◌<◌, ◌≤◌, List, [], ◌∷◌, ◌++◌, length}
use Rattle.std.proofs.Common.{Some, None, true, false, cond, refl, sym, ap, ◌∙◌, subst, arith}
use Rattle.std.proofs.lemmas.Bool.Decides.{nat_tests}
use Rattle.std.proofs.lemmas.List.{reverse-append}
use Rattle.std.specs.Prelude.{nat_le, reverse}
use Rattle.tcl_words.specs.Deep.{turn, open_after, all_end, deep_end}
use Rattle.tcl_words.specs.Skips.{turns}
use Rattle.tcl_words.specs.declared.deep.Effect.{Effect}
use Rattle.tcl_words.specs.declared.deep.Inside.{Inside}

-- the scan has come to the place, with so much open
pub record DeepTo (text : List ℕ) (first : Inside) (start : ℕ) (all : List Inside) (at : ℕ) : Type 0 where
  pub n : ℕ
  pub enough : length text < n + at
  pub same : deep_end text first start ≡ all_end text n all at

pub deep_begins : (text : List ℕ) (first : Inside) (start : ℕ)
    → DeepTo text first start (first ∷ []) start
unfolding deep_end
deep_begins text first start = record { n = turns text; enough = omega arith; same = refl }

is_below : (a b : ℕ) → a < b → nat_le b a ≡ false
is_below a b h = grind (arith, nat_tests)

is_not_below : (a b : ℕ) → b ≤ a → nat_le b a ≡ true
is_not_below a b h = grind (arith, nat_tests)

all_end_more : (text : List ℕ) (n : ℕ) (inside : Inside) (outer : List Inside) (at : ℕ) → 0 < n
    → at < length text → all_end text n (inside ∷ outer) at
    ≡ all_end text (n - 1) (open_after (turn text inside at).0 outer) (turn text inside at).1
unfolding all_end
all_end_more text zero inside outer at h w = absurd (omega arith)
all_end_more text (suc n) inside outer at h w =
    let k : suc n - 1 ≡ n = omega arith in
    let all = open_after (turn text inside at).0 outer in
    ap (λ b. cond b None (all_end text n all (turn text inside at).1)) (is_below at (length text) w)
    ∙ ap (λ m. all_end text m all (turn text inside at).1) (sym k)

pub deep_turn : (text : List ℕ) (first inside : Inside) (start at : ℕ) (outer : List Inside) (r : Effect × ℕ)
    → at < length text → r ≡ turn text inside at → at < r.1
    → DeepTo text first start (inside ∷ outer) at
    → DeepTo text first start (open_after r.0 outer) r.1
deep_turn text first inside start at outer r w is on so = record {
  n = so.n - 1;
  enough = omega (arith, so.enough);
  same = so.same ∙ all_end_more text so.n inside outer at (omega (arith, so.enough)) w
      ∙ ap (λ x. all_end text (so.n - 1) (open_after x.0 outer) x.1) (sym is);
}

all_end_at : (text : List ℕ) (n : ℕ) (inside : Inside) (outer : List Inside) (at : ℕ)
    → length text ≤ at → all_end text n (inside ∷ outer) at ≡ None
unfolding all_end
all_end_at text zero inside outer at h = refl
all_end_at text (suc n) inside outer at h =
    ap (λ b. cond b None (all_end text n (open_after (turn text inside at).0 outer)
    (turn text inside at).1)) (is_not_below at (length text) h)

-- the text ended with something open
pub deep_at_end : (text : List ℕ) (first inside : Inside) (start at : ℕ) (outer : List Inside)
    → length text ≤ at → DeepTo text first start (inside ∷ outer) at
    → None ≡ deep_end text first start
deep_at_end text first inside start at outer h so =
    sym (so.same ∙ all_end_at text so.n inside outer at h)

none_open : (text : List ℕ) (n at : ℕ) → 0 < n → all_end text n [] at ≡ Some at
unfolding all_end
none_open text zero at h = absurd (omega arith)
none_open text (suc n) at h = refl

pub deep_closed : (text : List ℕ) (first : Inside) (start at : ℕ) → at ≤ length text
    → DeepTo text first start [] at → Some at ≡ deep_end text first start
deep_closed text first start at within so =
    sym (so.same ∙ none_open text so.n at (omega (arith, so.enough)))

pub reverse_push : (xs : List Inside) (x : Inside) → reverse (xs ++ x ∷ []) ≡ x ∷ reverse xs
reverse_push xs x = reverse-append xs (x ∷ [])

-- the effect of a turn, named
pub deep_on : (text : List ℕ) (first : Inside) (start next : ℕ) (d e : Effect) (outer all : List Inside)
    → d ≡ e → open_after e outer ≡ all → DeepTo text first start (open_after d outer) next
    → DeepTo text first start all next
deep_on text first start next d e outer all is shape so =
    subst (λ xs. DeepTo text first start xs next) (ap (λ x. open_after x outer) is ∙ shape) so

pub no_items : (xs : List Inside) → length xs ≡ 0 → xs ≡ []
no_items [] h = refl
no_items (x ∷ xs) h = absurd (omega arith)
