-- Pieces of a text: whatever is read behind a piece is read with it.
use Rattle.std.proofs.Common.{◌≡◌, ℕ, Bool, true, false, eqb, List, [], ◌∷◌, ◌++◌, append_assoc, Option, Some, None, refl, sym, ap, subst, ◌∙◌}
use Rattle.std.specs.Prelude.{codes, flat_map, fold, if◌then◌else◌, pos}
use Rattle.toml.specs.Data.{Data, Members, integer}
use Rattle.tmsh_laws.proofs.Reading.{IsRun, ReadsAll, close_all, run_within, white}
use Rattle.tmsh_read.specs.Grammar.{step}
use Rattle.tmsh_read.specs.Reading.{wants_text}
use Rattle.tmsh_read.specs.Sketch.{Sketch}
use Rattle.tmsh_read.specs.Tables.{with_member}
use Rattle.tmsh_read.proofs.ReaderTypes.{Gap}
use Rattle.tmsh_read.proofs.GapKinds.{LineStart, Within}
use Rattle.tmsh_read.proofs.TokenKinds.{Close, Run}
use Rattle.tmsh_text.specs.Items.{item, joined}

abbrev pub Goes : Gap → Sketch → List ℕ → Gap → Sketch → Type 0
Goes g s text h t = (rest : List ℕ) (u : Sketch) → ReadsAll h t rest u → ReadsAll g s (text ++ rest) u

-- ---- what stands one behind another

abbrev pub chain : List (List ℕ) → List ℕ → List ℕ
chain [] rest = rest
chain (p ∷ ps) rest = p ++ chain ps rest

pub joined_chain : (ps : List (List ℕ)) (rest : List ℕ) → joined ps ++ rest ≡ chain ps rest
joined_chain [] rest = refl
joined_chain (p ∷ ps) rest = append_assoc p (joined ps) rest ∙ ap (λ x. p ++ x) (joined_chain ps rest)

pub by_chain : (g h : Gap) (s t : Sketch) (ps : List (List ℕ)) → ((rest : List ℕ) (u : Sketch) → ReadsAll h t rest u → ReadsAll g s (chain ps rest) u) → Goes g s (joined ps) h t
by_chain g h s t ps more rest u all = subst (λ x. ReadsAll g s x u) (sym (joined_chain ps rest)) (more rest u all)

pub nothing : (g : Gap) (s : Sketch) → Goes g s [] g s
nothing g s rest u all = all

pub both : (g h k : Gap) (s t v : Sketch) (a b : List ℕ) → Goes g s a h t → Goes h t b k v → Goes g s (a ++ b) k v
both g h k s t v a b p q rest u all = subst (λ x. ReadsAll g s x u) (sym (append_assoc a b rest)) (p (b ++ rest) u (q rest u all))

abbrev pub Each : {A : Type 0} → (A → Type 0) → List A → Type 0
Each P [] = Unit {0}
Each P (x ∷ xs) = P x × Each P xs

module _ {A B : Type 0} (g : Gap) (f : A → List ℕ) (state : B → Sketch) (after : B → A → B) (P : A → Type 0)
    (one : (b : B) (x : A) → P x → Goes g (state b) (f x) g (state (after b x))) where
  pub all_go : (xs : List A) → Each P xs → (b : B) → Goes g (state b) (flat_map f xs) g (state (fold after b xs))
  all_go [] each b = nothing g (state b)
  all_go (x ∷ xs) each b =
      both g g g (state b) (state (after b x)) (state (fold after (after b x) xs)) (f x) (flat_map f xs) (one b x each.0) (all_go xs each.1 (after b x))

-- ---- items

abbrev pub Plain : Sketch → Type 0
Plain s = wants_text s.next ≡ false

pub blank : (s u : Sketch) → Plain s → (rest : List ℕ) → ReadsAll Within s rest u → ReadsAll Within s (32 ∷ rest) u
blank s u plain rest more = white Within Within 32 refl s u plain rest more

pub newline : (s u : Sketch) → Plain s → (rest : List ℕ) → ReadsAll LineStart s rest u → ReadsAll Within s (10 ∷ rest) u
newline s u plain rest more = white Within LineStart 10 refl s u plain rest more

pub indent : (s u : Sketch) → Plain s → (rest : List ℕ) → ReadsAll Within s rest u → ReadsAll LineStart s (32 ∷ (32 ∷ (32 ∷ (32 ∷ rest)))) u
indent s u plain rest more =
    white LineStart Within 32 refl s u plain (32 ∷ (32 ∷ (32 ∷ rest)))
    (blank s u plain (32 ∷ (32 ∷ rest)) (blank s u plain (32 ∷ rest) (blank s u plain rest more)))

pub indent_twice : (s u : Sketch) → Plain s → (rest : List ℕ) → ReadsAll Within s rest u
    → ReadsAll LineStart s (32 ∷ (32 ∷ (32 ∷ (32 ∷ (32 ∷ (32 ∷ (32 ∷ (32 ∷ rest)))))))) u
indent_twice s u plain rest more =
    indent s u plain (32 ∷ (32 ∷ (32 ∷ (32 ∷ rest))))
    (blank s u plain (32 ∷ (32 ∷ (32 ∷ rest))) (blank s u plain (32 ∷ (32 ∷ rest)) (blank s u plain (32 ∷ rest) (blank s u plain rest more))))

-- a keyword and a run
pub item_goes : (s r t : Sketch) (w v : List ℕ) → Plain s → Plain r → Plain t → IsRun w → IsRun v → step s (Run w) ≡ Some r → step r (Run v) ≡ Some t
    → Goes LineStart s (item w v) LineStart t
item_goes s r t w v plain_s plain_r plain_t run_w run_v first second =
    by_chain LineStart LineStart s t (codes "    " ∷ (w ∷ (codes " " ∷ (v ∷ (codes "\n" ∷ [])))))
    (λ rest u all. indent s u plain_s (w ++ (32 ∷ (v ++ (10 ∷ rest))))
    (run_within s r u plain_s w 32 (v ++ (10 ∷ rest)) run_w refl first
    (blank r u plain_r (v ++ (10 ∷ rest))
    (run_within r t u plain_r v 10 rest run_v refl second
    (newline t u plain_t rest all)))))

-- the line that ends a stanza or an item
pub ends_line : (s t : Sketch) → Plain s → Plain t → step s Close ≡ Some t → (rest : List ℕ) (u : Sketch) → ReadsAll LineStart t rest u → ReadsAll LineStart s (125 ∷ (10 ∷ rest)) u
ends_line s t plain_s plain_t is rest u all = close_all LineStart s t u plain_s (10 ∷ rest) refl is (newline t u plain_t rest all)

-- ---- entries of tables

abbrev pub put : List ℕ → Option Data → Members → Members
put k None m = m
put k (Some d) m = with_member k d m

abbrev pub number_entry : (usual n : ℕ) → Option Data
number_entry usual n = if eqb n usual then None else Some (integer (pos n))

-- a number, unless it is the usual one
module _ (g : Gap) (state : Members → Sketch) (k : List ℕ) (text : List ℕ) (m : Members) (n : ℕ)
    (goes : Goes g (state m) text g (state (with_member k (integer (pos n)) m))) where
  pub unless_usual : (x : Bool) → Goes g (state m) (if x then [] else text) g (state (put k (if x then None else Some (integer (pos n))) m))
  unless_usual true = nothing g (state m)
  unless_usual false = goes
