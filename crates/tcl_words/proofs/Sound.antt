-- What is read without a fault is spelled so.
use Rattle.std.proofs.Common.{◌≡◌, ℕ, zero, suc, ◌%◌, ◌<◌, List, [], ◌∷◌, ◌++◌, Bool, true, false}
use Rattle.std.proofs.Common.{Option, Some, None, cond, refl, sym, ap, ◌∙◌, arith}
use Rattle.std.proofs.lemmas.Bool.Decides.{nat_tests}
use Rattle.std.specs.Prelude.{nat_lt, nat_le, ◌&&◌}
use Rattle.tcl_words.specs.Escapes.{unit}
use Rattle.tcl_words.specs.Faults.{comes_first, least, noted}
use Rattle.tcl_words.specs.Grammar.{SpellsRun, SpellsBraces}
use Rattle.tcl_words.specs.Places.{stands, ends_run}
use Rattle.tcl_words.specs.Skips.{turns}
use Rattle.tcl_words.specs.Values.{Read, joined, many, next_byte, run, inner_after, deepened}
use Rattle.tcl_words.specs.Values.{ends_braces, braces}
use Rattle.tcl_words.specs.declared.parse_fault.Fault.{Fault}
use Rattle.tcl_words.specs.declared.parse_fault.Fault.TheVariants.{BadEscape, TooDeep}
use Rattle.tcl_words.specs.declared.places.Closer.{Closer}
use Rattle.tcl_words.specs.declared.progress.Progress.{Progress}
use Rattle.tcl_words.proofs.Runs.{brace_read}

-- before this reading no fault was noted, and it gives what stands there
pub record Reads {A : Type 0} (Stands : ℕ → A → ℕ → Type 0) (s : Progress) (r : Read A) : Type 0 where
  pub quiet : s.fault ≡ None
  pub stands_so : Stands s.at r.0 r.1.at

abbrev pub IsSound : {A : Type 0} → (ℕ → A → ℕ → Type 0) → (Progress → Read A) → Type 0
IsSound Stands read = (s : Progress) → (read s).1.fault ≡ None → Reads Stands s (read s)

some_is_some : (b : Bool) (f e : Fault) → cond b (Some f) (Some e) ≡ None → ⊥
some_is_some true f e h = grind arith
some_is_some false f e h = grind arith

least_is_some : (o : Option Fault) (f : Fault) → least o f ≡ None → ⊥
least_is_some None f h = grind arith
least_is_some (Some e) f h = some_is_some (comes_first f e) f e h

-- a noted fault stays
pub noted_stays : (f : Fault) (s : Progress) → (noted f s).fault ≡ None → ⊥
unfolding noted
noted_stays f s h = least_is_some s.fault f h

-- a sequence of what is read soundly is read soundly
module _ {A B : Type 0} (before : Progress → Progress) (stop : Progress → Bool) (item : Progress → Read A) (add : A → B → B) (none : B) (StandsA : ℕ → A → ℕ → Type 0) (StandsB : ℕ → B → ℕ → Type 0) (moves : (s : Progress) → (before s).fault ≡ s.fault) (item_sound : (s : Progress) → stop (before s) ≡ false → (item (before s)).1.fault ≡ None → Reads StandsA (before s) (item (before s))) (ends : (s : Progress) → stop (before s) ≡ true → StandsB s.at none s.at) (goes : (s : Progress) (a : A) (b : B) (mid end : ℕ) → stop (before s) ≡ false → StandsA (before s).at a mid → StandsB mid b end → StandsB s.at (add a b) end) where
  turn_sound : (more : Progress → Read B) → IsSound StandsB more → (s : Progress) (b : Bool)
      → stop (before s) ≡ b
      → (cond b (none, s) (joined add (item (before s)) more)).1.fault ≡ None
      → Reads StandsB s (cond b (none, s) (joined add (item (before s)) more))
  turn_sound more sound s true e h = record { quiet = h; stands_so = ends s e }
  turn_sound more sound s false e h =
      let rest = sound (item (before s)).1 h in
      let first = item_sound s e rest.quiet in
      record {
        quiet = sym (moves s) ∙ first.quiet;
        stands_so = goes s _ _ _ _ e first.stands_so rest.stands_so;
      }

  pub many_sound : (n : ℕ) → IsSound StandsB (many before stop item add none n)
  unfolding many
  many_sound zero s h = absurd (noted_stays (TooDeep s.at) s h)
  many_sound (suc n) s h =
      turn_sound (many before stop item add none n) (many_sound n) s (stop (before s)) refl h

small_number : (n : ℕ) → nat_lt 255 n ≡ false → (n % 256 ≡ n) × (n < 256)
small_number n h = let b : n < 256 = grind (arith, nat_tests) in (omega (arith, b), b)

-- a byte that stands at the place
abbrev pub IsByte : List ℕ → ℕ → ℕ → ℕ → Type 0
IsByte text at b mid = (unit text at ≡ (b, mid)) × (b < 256)

byte_of : (text : List ℕ) (s : Progress) (u : ℕ × ℕ) (b : Bool) → unit text s.at ≡ u
    → nat_lt 255 u.0 ≡ b → (cond b (noted (BadEscape s.at) s) s).fault ≡ None
    → (s.fault ≡ None) × IsByte text s.at (u.0 % 256) u.1
byte_of text s u true e t h = absurd (noted_stays (BadEscape s.at) s h)
byte_of text s u false e t h =
    let small = small_number u.0 t in
    (h, (e ∙ ap (λ n. (n, u.1)) (sym small.0), rw small.0 small.1))

byte_sound : (text : List ℕ) → IsSound (IsByte text) (next_byte text)
unfolding next_byte
byte_sound text s h =
    let both = byte_of text s (unit text s.at) (nat_lt 255 (unit text s.at).0) refl refl h in
    record { quiet = both.0; stands_so = both.1 }

pub run_sound : (c : Closer) (text : List ℕ) → IsSound (SpellsRun c text) (run c text)
unfolding run
run_sound c text =
    many_sound (λ s. s) (λ s. ends_run c text s.at) (next_byte text) (λ b bs. b ∷ bs) []
    (IsByte text) (SpellsRun c text) (λ s. refl) (λ s e. byte_sound text s) (λ s e. (e, refl))
    (λ s b bs mid end e here more. (mid, e, here.0, here.1, more)) (turns text)

deepened_quiet : (room inner : ℕ) (text : List ℕ) (s : Progress) (b : Bool)
    → (stands text s.at 123 && nat_le room inner) ≡ b
    → (cond b (noted (TooDeep s.at) s) s).fault ≡ None → (s.fault ≡ None) × (b ≡ false)
deepened_quiet room inner text s true e h = absurd (noted_stays (TooDeep s.at) s h)
deepened_quiet room inner text s false e h = (h, refl)

abbrev pub SomeBraces : ℕ → List ℕ → ℕ → ℕ → List ℕ → ℕ → Type 0
SomeBraces room text inner at bytes end =
    (n : ℕ) × SpellsBraces n room text inner at bytes end

brace_turn : (room : ℕ) (text : List ℕ) (inner : ℕ) (more : Progress → Read (List ℕ)) (s : Progress) (b : Bool)
    → IsSound (SomeBraces room text (inner_after text s.at inner)) more
    → ends_braces text inner s.at ≡ b
    → (cond b ([], s) (joined (λ a b. a ++ b) (brace_read room text inner s) more)).1.fault ≡ None
    → Reads (SomeBraces room text inner) s
    (cond b ([], s) (joined (λ a b. a ++ b) (brace_read room text inner s) more))
unfolding deepened
brace_turn room text inner more s true sound e h =
    record { quiet = h; stands_so = (0, (e, refl, refl)) }
brace_turn room text inner more s false sound e h =
    let rest = sound (brace_read room text inner s).1 h in
    let quiet = deepened_quiet room inner text s (stands text s.at 123 && nat_le room inner) refl
    rest.quiet in
    record {
      quiet = quiet.0;
      stands_so = (suc rest.stands_so.0, (_, e, quiet.1, refl, rest.stands_so.1));
    }

pub braces_sound : (room : ℕ) (text : List ℕ) (n inner : ℕ)
    → IsSound (SomeBraces room text inner) (braces room text n inner)
unfolding braces
braces_sound room text zero inner s h = absurd (noted_stays (TooDeep s.at) s h)
braces_sound room text (suc n) inner s h =
    let next = inner_after text s.at inner in
    brace_turn room text inner (braces room text n next) s (ends_braces text inner s.at)
    (braces_sound room text n next) refl h
