-- What control commands come to, from what their words come to.
use Rattle.std.proofs.Common.{◌≡◌, ℕ, List, [], ◌∷◌, length, get_or, sym, ap, ap₂, ◌∙◌, arith}
use Rattle.std.specs.Prelude.{Some}
use Rattle.tcl_words.specs.Tree.{Word}
use Rattle.tcl_trees.specs.Controls.{while_at, for_at, catch_at, caught_at, caught_of, formed}
use Rattle.tcl_trees.specs.Forms.{catch_form}
use Rattle.tcl_trees.specs.Making.{Made, Level, nothing}
use Rattle.tcl_trees.specs.Tree.{Tree, loop, catch_in}
use Rattle.tcl_trees.specs.Words.{word_at}
use Rattle.tcl_trees.specs.declared.findings.Findings.{Findings}

-- lists by their items

pub three_items : {A : Type 0} (xs : List A) (a b : A) → length xs ≡ 3 → a ≡ get_or xs 1 a → b ≡ get_or xs 2 b
    → xs ≡ get_or xs 0 a ∷ a ∷ b ∷ []
three_items [] a b h e f = absurd (omega arith)
three_items (x ∷ []) a b h e f = absurd (omega arith)
three_items (x ∷ y ∷ []) a b h e f = absurd (omega arith)
three_items (x ∷ y ∷ z ∷ []) a b h e f = ap₂ (λ p q. x ∷ p ∷ q ∷ []) (sym e) (sym f)
three_items (x ∷ y ∷ z ∷ u ∷ xs) a b h e f = absurd (omega arith)

pub five_items : {A : Type 0} (xs : List A) (a b c d : A) → length xs ≡ 5 → a ≡ get_or xs 1 a → b ≡ get_or xs 2 b
    → c ≡ get_or xs 3 c → d ≡ get_or xs 4 d → xs ≡ get_or xs 0 a ∷ a ∷ b ∷ c ∷ d ∷ []
five_items [] a b c d h e f g i = absurd (omega arith)
five_items (x ∷ []) a b c d h e f g i = absurd (omega arith)
five_items (x ∷ y ∷ []) a b c d h e f g i = absurd (omega arith)
five_items (x ∷ y ∷ z ∷ []) a b c d h e f g i = absurd (omega arith)
five_items (x ∷ y ∷ z ∷ u ∷ []) a b c d h e f g i = absurd (omega arith)
five_items (x ∷ y ∷ z ∷ u ∷ v ∷ []) a b c d h e f g i =
    ap₂ (λ p q. x ∷ p ∷ q ∷ u ∷ v ∷ []) (sym e) (sym f) ∙ ap₂ (λ p q. x ∷ a ∷ b ∷ p ∷ q ∷ []) (sym g) (sym i)
five_items (x ∷ y ∷ z ∷ u ∷ v ∷ w ∷ xs) a b c d h e f g i = absurd (omega arith)

module _ (level : Level) (base at : ℕ) where
  abbrev looped : Made Tree → Made Tree → Made Tree → Made Tree → Made Tree
  looped a t n b = (loop a.0 t.0 n.0 b.0, b.1)

  pub while_made : (name test body : Word) (t b : Tree) (s s1 s2 : Findings)
      → level.condition base test s ≡ (t, s1) → level.body base body s1 ≡ (b, s2)
      → while_at level base at (name ∷ test ∷ body ∷ []) s ≡ (loop nothing t nothing b, s2)
  while_made name test body t b s s1 s2 first second =
      ap (λ r. looped (nothing, s) r (nothing, s) (level.body base body r.1)) first
      ∙ ap (looped (nothing, s) (t, s1) (nothing, s)) second

  pub for_made : (name start test next body : Word) (a t n b : Tree) (s s1 s2 s3 s4 : Findings)
      → level.body base start s ≡ (a, s1) → level.condition base test s1 ≡ (t, s2)
      → level.body base next s2 ≡ (n, s3) → level.body base body s3 ≡ (b, s4)
      → for_at level base at (name ∷ start ∷ test ∷ next ∷ body ∷ []) s ≡ (loop a t n b, s4)
  for_made name start test next body a t n b s s1 s2 s3 s4 first second third fourth =
      ap (λ r. tested r (level.condition base test r.1)) first
      ∙ ap (tested (a, s1)) second
      ∙ ap (λ r. looped (a, s1) (t, s2) r (level.body base body r.1)) third
      ∙ ap (looped (a, s1) (t, s2) (n, s3)) fourth
    where
      tested : Made Tree → Made Tree → Made Tree
      tested r q = let m = level.body base next q.1 in looped r q m (level.body base body m.1)

  -- a `catch` with a name
  pub catch_made : (words : List Word) (body name : Word) (b n : Tree) (s s1 s2 : Findings)
      → catch_form words ≡ Some (body, Some name) → level.body base body s ≡ (b, s1)
      → word_at level base name s1 ≡ (n, s2) → catch_at level base at words s ≡ (catch_in b n, s2)
  catch_made words body name b n s s1 s2 form first second =
      ap (λ o. formed base at (caught_at level base) o s) form
      ∙ ap (λ r. caught_of level base r.0 (Some name) r.1) first
      ∙ ap (λ r. (catch_in b r.0, r.1)) second
