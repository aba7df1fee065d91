-- Where the names of variables end.
use Rattle.std.proofs.Common.{◌≡◌, inl, inr, refl, sym, ap, ap₂, ◌∙◌, ℕ, zero, suc, ◌+◌, ◌-◌, ◌<◌, ◌≤◌}
use Rattle.std.proofs.Common.{List, length, Bool, true, false, nat_lt, arith}
use Rattle.std.proofs.lemmas.Bool.Decides.{nat_tests}
use Rattle.std.specs.Prelude.{◌&&◌, ◌||◌}
use Rattle.tcl_words.specs.Grammar.{SpellsPart}
use Rattle.tcl_words.specs.Places.{stands, letter_stands, names, after_name, opens_name, starts_variable}
use Rattle.tcl_words.specs.Skips.{skip, turns, name_end}
use Rattle.tcl_words.specs.Tree.{Part, plain, variable, element, bracket, Parts, no_parts, and_part}
use Rattle.tcl_words.specs.declared.places.Closer.TheVariants.{Quote}
use Rattle.tcl_words.proofs.Onward.{skip_onward, skip_stops}
use Rattle.tcl_words.proofs.Runs.{stands_within, skip_stop, skip_more, name_within}
use Rattle.tcl_expr.specs.Expression.{joined}
use Rattle.tcl_expr.specs.Grammar.{SpellsToken}
use Rattle.tcl_expr.proofs.Carried.{skip_none, name_step}

-- a name that ends at the place in the one text ends at its place in the other
pub record Ends (d last : ℕ) (new : List ℕ) : Type 0 where
  pub no_name : names new (d + last) ≡ false
  pub no_index : stands new (d + last) 40 ≡ false

pub is_below : (a b : ℕ) → a < b → nat_lt a b ≡ true
is_below a b h = grind (arith, nat_tests)

pub both_true : (a b : Bool) → (a && b) ≡ true → (a ≡ true) × (b ≡ true)
both_true true b h = (refl, h)
both_true false b h = cc

pub name_stop : (text : List ℕ) (at : ℕ) → names text (name_end text at) ≡ false
unfolding name_end
name_stop text at = skip_stops (names text) (after_name text) (length text) (name_step text) (name_within text) (turns text) at (omega arith)

pub name_first : (text : List ℕ) (at : ℕ) → names text at ≡ true → after_name text at ≤ name_end text at
unfolding name_end
name_first text at h =
    let more = skip_more (names text) (after_name text) (turns text) at (omega arith) h in
    let on = skip_onward (names text) (after_name text) (λ k. let o = name_step text k in omega (arith, o)) (turns text - 1) (after_name text at) in
    omega (arith, more, on)

pub variable_names : (text : List ℕ) (at : ℕ) → starts_variable text at ≡ true → opens_name text at ≡ false → (stands text at 36 ≡ true) × (names text (at + 1) ≡ true)
unfolding starts_variable
variable_names text at h q =
    let both : (stands text at 36 && names text (at + 1)) ≡ true = ap (λ t. t || (stands text at 36 && names text (at + 1))) (sym q) ∙ h in
    both_true (stands text at 36) (names text (at + 1)) both

pub skip_within : (test : ℕ → Bool) (step : ℕ → ℕ) (bound : ℕ) → ((k : ℕ) → test k ≡ true → step k ≤ bound) → (m k : ℕ) → k ≤ bound → skip test step m k ≤ bound
skip_within test step bound within zero k h = let none = skip_none test step k in omega (arith, none, h)
skip_within test step bound within (suc m) k h = by_test (λ e. skip_within test step bound within m (step k) (within k e)) (test k) refl where
  by_test : (test k ≡ true → skip test step m (step k) ≤ bound) → (t : Bool) → test k ≡ t → skip test step (suc m) k ≤ bound
  by_test again false e = let stop = skip_stop test step (suc m) k e in omega (arith, stop, h)
  by_test again true e =
      let less : suc m - 1 ≡ m = omega arith in
      let more = skip_more test step (suc m) k (omega arith) e ∙ ap (λ i. skip test step i (step k)) less in
      let next = again e in
      omega (arith, more, next)

pub name_step_within : (text : List ℕ) (k : ℕ) → names text k ≡ true → after_name text k ≤ length text
unfolding names after_name letter_stands stands
name_step_within text k e = grind (arith, nat_tests)

pub name_end_within : (text : List ℕ) (at : ℕ) → names text at ≡ true → name_end text at ≤ length text
unfolding name_end
name_end_within text at h =
    let w = name_within text at h in
    skip_within (names text) (after_name text) (length text) (name_step_within text) (turns text) at (omega (arith, w))

pub part_within : (room : ℕ) (text : List ℕ) (at : ℕ) (p : Part) (last : ℕ) → (stands text at 91 || starts_variable text at) ≡ true → SpellsPart room Quote text at p last → last ≤ length text
part_within room text at (plain span bytes) last s is =
    let none : (stands text at 91 || starts_variable text at) ≡ false = ap₂ (λ u v. u || v) is.1 is.2 in absurd (cc)
part_within room text at (variable span name) last s (is, inl v) =
    let w = name_end_within text (at + 1) (variable_names text at v.named.starts v.named.unbraced).1 in
    omega (arith, w, v.named.end_is)
part_within room text at (variable span name) last s (is, inr v) = let e = v.enclosed in let w = stands_within text e.close 125 e.is_closed in omega (arith, w, e.end_is)
part_within room text at (element span name index) last s is = let e = is.4 in let w = stands_within text e.close 41 e.is_closed in omega (arith, w, e.end_is)
part_within room text at (bracket span script) last s is = let e = is.2 in let w = stands_within text e.close 93 e.is_closed in omega (arith, w, e.end_is)

pub joined_within : (room : ℕ) (text : List ℕ) (at : ℕ) (ps : Parts) (last : ℕ) → SpellsToken room text at (joined ps) last → last ≤ length text
joined_within room text at ps last (inl is) = let e = is.1 in let w = stands_within text e.close 34 e.is_closed in omega (arith, w, e.end_is)
joined_within room text at ps last (inr (inl is)) = let e = is.1 in let w = stands_within text e.close 125 e.is_closed in omega (arith, w, e.end_is)
joined_within room text at no_parts last (inr (inr is)) = absurd is
joined_within room text at (and_part p (and_part q ps)) last (inr (inr is)) = absurd is
joined_within room text at (and_part p no_parts) last (inr (inr is)) = part_within room text at p last is.0 is.1
