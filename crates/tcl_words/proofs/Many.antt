-- The turns of a sequence.
use Rattle.std.proofs.Common.{◌≡◌, ℕ, zero, suc, ◌+◌, ◌-◌, ◌<◌, ◌≤◌, List, length, Bool, true}
use Rattle.std.proofs.Common.{false, cond, sym, ap, ◌∙◌, arith}
use Rattle.tcl_words.specs.Skips.{turns}
use Rattle.tcl_words.specs.Values.{Read, joined, many}
use Rattle.tcl_words.specs.declared.progress.Progress.{Progress}

abbrev seen_by : {B : Type 0} → (B → B) → Read B → Read B
seen_by after r = (after r.0, r.1)

module _ {A B : Type 0} (before : Progress → Progress) (stop : Progress → Bool) (item : Progress → Read A) (add : A → B → B) (none : B) (text : List ℕ) where
  -- the items so far stand in front of what comes from the place on
  pub record ManyTo (from : Progress) (after : B → B) (s : Progress) : Type 0 where
    pub n : ℕ
    pub enough : length text < n + s.at
    pub same : many before stop item add none (turns text) from
        ≡ seen_by after (many before stop item add none n s)

  pub many_begins : (s : Progress) (after : B → B) → ((b : B) → b ≡ after b) → ManyTo s after s
  many_begins s after e = record {
    n = turns text;
    enough = omega arith;
    same = ap (λ b. (b, (many before stop item add none (turns text) s).1)) (e _);
  }

  pub many_more : (n : ℕ) (s : Progress) → 0 < n → stop (before s) ≡ false
      → many before stop item add none n s
      ≡ joined add (item (before s)) (many before stop item add none (n - 1))
  unfolding many
  many_more zero s h e = absurd (omega arith)
  many_more (suc n) s h e =
      let k : suc n - 1 ≡ n = omega arith in
      ap (λ b. cond b (none, s) (joined add (item (before s)) (many before stop item add none n))) e
      ∙ ap (λ m. joined add (item (before s)) (many before stop item add none m)) (sym k)

  pub many_stops : (n : ℕ) (s : Progress) → 0 < n → stop (before s) ≡ true
      → many before stop item add none n s ≡ (none, s)
  unfolding many
  many_stops zero s h e = absurd (omega arith)
  many_stops (suc n) s h e =
      ap (λ b. cond b (none, s) (joined add (item (before s)) (many before stop item add none n))) e

  pub many_turn : (from s s1 s2 : Progress) (after after2 : B → B) (a : A) → s.at ≤ length text
      → before s ≡ s1 → stop s1 ≡ false → item s1 ≡ (a, s2) → s.at < s2.at
      → ((b : B) → after (add a b) ≡ after2 b) → ManyTo from after s → ManyTo from after2 s2
  many_turn from s s1 s2 after after2 a within is1 going is2 on push so =
      let goes : stop (before s) ≡ false = ap stop is1 ∙ going in
      let read : item (before s) ≡ (a, s2) = ap item is1 ∙ is2 in
      let rest = many before stop item add none (so.n - 1) s2 in
      record {
        n = so.n - 1;
        enough = omega (arith, so.enough);
        same = so.same
            ∙ ap (seen_by after) (many_more so.n s (omega (arith, so.enough)) goes
            ∙ ap (λ r. joined add r (many before stop item add none (so.n - 1))) read)
            ∙ ap (λ b. (b, rest.1)) (push rest.0);
      }

  pub many_ends : (from s : Progress) (after : B → B) (b : B) → s.at ≤ length text
      → stop (before s) ≡ true → after none ≡ b → ManyTo from after s
      → many before stop item add none (turns text) from ≡ (b, s)
  many_ends from s after b within ends all so =
      so.same ∙ ap (seen_by after) (many_stops so.n s (omega (arith, so.enough)) ends)
      ∙ ap (λ x. (x, s)) all
