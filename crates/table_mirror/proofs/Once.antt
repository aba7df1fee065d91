-- What a line says and what a plan comes to are one.
use Rattle.std.proofs.Common.{◌≡◌, ◌∙◌, ℕ, ◌+◌, ◌<◌, ◌^◌, Bool, true, false, List, [], ◌∷◌, ◌++◌, Option, Some, None, Result, Ok, Err, ap, ap₂, refl, subst, sym}
use Rattle.std.specs.Fmt.{decimal}
use Rattle.std.proofs.lemmas.Fmt.{decimal_injective}
use Rattle.journal_text.specs.Line.{words_of}
use Rattle.journal_text.specs.declared.line_kind.LineKind.{LineKind}
use Rattle.table_mirror.specs.Laws.{OneOutcome}
use Rattle.table_mirror.specs.Network.{World, at_first}
use Rattle.table_mirror.specs.Outcomes.{ComesTo, Ends, Goes, GoesOn, followed}
use Rattle.table_mirror.specs.Plans.{IsNumber, LineReads, Reads, VerbReads, WordsRead, is_comment, numbered, verb_of}
use Rattle.table_mirror.specs.Pushed.{Entry}
use Rattle.table_mirror.specs.declared.outcome.MirrorOutcome.{MirrorOutcome}
use Rattle.table_mirror.specs.declared.plan.PlanLine.{PlanLine}
use Rattle.table_mirror.specs.declared.plan.PlanVerb.{PlanVerb}

abbrev Read : Type 0
Read = Result (Option PlanLine) LineKind

one_number : (word : List ℕ) (m n : Option ℕ) → IsNumber word m → IsNumber word n → m ≡ n
one_number word (Some m) (Some n) x y = ap Some (decimal_injective m n x.1 y.1 (sym x.0 ∙ y.0))
one_number word (Some m) None x y = absurd (y m x.1 x.0)
one_number word None (Some n) x y = absurd (x n y.1 y.0)
one_number word None None x y = refl

one_verb : (verb : Option PlanVerb) (word : List ℕ) (a b : Read) → VerbReads verb word a → VerbReads verb word b → a ≡ b
one_verb None word a b x y = x ∙ sym y
one_verb (Some verb) word a b x y = x.2 ∙ ap (numbered verb) (one_number word x.0 y.0 x.1 y.1) ∙ sym y.2

one_words : (words : List (List ℕ)) (a b : Read) → WordsRead words a → WordsRead words b → a ≡ b
one_words [] a b x y = x ∙ sym y
one_words (first ∷ []) a b x y = x ∙ sym y
one_words (first ∷ number ∷ []) a b x y = one_verb (verb_of first) number a b x y
one_words (first ∷ number ∷ more ∷ words) a b x y = x ∙ sym y

one_line : (skips : Bool) (line : List ℕ) (a b : Read) → LineReads skips line a → LineReads skips line b → a ≡ b
one_line true line a b x y = x ∙ sym y
one_line false line a b x y = one_words (words_of line) a b x y

one_read : (line : List ℕ) (a b : Read) → Reads line a → Reads line b → a ≡ b
one_read line a b x y = one_line (is_comment line) line a b x y

one_end : (limit : ℕ) (entries : List Entry) (line : ℕ) (rest : List ℕ) (w : World) (a b : MirrorOutcome)
    → Ends limit entries line rest w a → Ends limit entries line rest w b → a ≡ b
one_end limit entries line [] w a b x y = x ∙ sym y
one_end limit entries line (byte ∷ more) w a b x y = x ∙ sym y

one_onward : (came : Result World MirrorOutcome) (goes other : World → Type 0) (a b : MirrorOutcome)
    → ((w : World) → goes w → other w → a ≡ b) → GoesOn came goes a → GoesOn came other b → a ≡ b
one_onward (Ok w) goes other a b one x y = one w x y
one_onward (Err due) goes other a b one x y = x ∙ sym y

one_goes : (limit : ℕ) (entries : List Entry) (line : ℕ) (lines : List (List ℕ)) (rest : List ℕ) (w : World)
    (a b : MirrorOutcome) → Goes limit entries line lines rest w a → Goes limit entries line lines rest w b → a ≡ b
one_goes limit entries line [] rest w a b x y = one_end limit entries line rest w a b x y
one_goes limit entries line (text ∷ lines) rest w a b x y =
    let same : x.0 ≡ y.0 = one_read text x.0 y.0 x.1 y.1 in
    let first = subst (λ read. GoesOn (followed limit entries line read w) (λ after. Goes limit entries (line + 1) lines rest after a) a) same x.2 in
    one_onward (followed limit entries line y.0 w) _ _ a b (λ after. one_goes limit entries (line + 1) lines rest after a b) first y.2

-- the last of a list, and what stands before it
last_same : (xs ys : List (List ℕ)) (x y : List ℕ) → xs ++ x ∷ [] ≡ ys ++ y ∷ [] → (xs ≡ ys) × (x ≡ y)
last_same [] [] x y e = (refl, let h = e in cc)
last_same [] (z ∷ []) x y e = absurd (let h = e in cc)
last_same [] (z ∷ t ∷ ys) x y e = absurd (let h = e in cc)
last_same (z ∷ []) [] x y e = absurd (let h = e in cc)
last_same (z ∷ t ∷ xs) [] x y e = absurd (let h = e in cc)
last_same (z ∷ xs) (t ∷ ys) x y e =
    let first : z ≡ t = let h = e in cc in
    let more : xs ++ x ∷ [] ≡ ys ++ y ∷ [] = let h = e in cc in
    let behind = last_same xs ys x y more in
    (ap₂ (λ a more. a ∷ more) first behind.0, behind.1)

pub one_outcome : OneOutcome
one_outcome limit entries plan a b x y =
    let same = last_same x.lines y.lines x.rest y.rest (sym x.parts ∙ y.parts) in
    let first = subst (λ rest. Goes limit entries 1 y.lines rest at_first a) same.1
    (subst (λ lines. Goes limit entries 1 lines x.rest at_first a) same.0 x.goes) in
    one_goes limit entries 1 y.lines y.rest at_first a b first y.goes
