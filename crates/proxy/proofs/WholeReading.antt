-- A schedule all of whose lines spell events has no faulty line, and is read in one way.
use Rattle.std.proofs.Common.{◌≡◌, inl, inr, refl, sym, ap, subst, ◌∙◌, ℕ, List, [], ◌∷◌, ◌++◌}
use Rattle.std.proofs.Common.{reverse, true, false, nat_eq, append_assoc, append-nil, arith}
use Rattle.std.proofs.lemmas.Bool.Decides.{nat_tests}
use Rattle.std.proofs.lemmas.List.{reverse-append, reverse-reverse}
use Rattle.core_events.specs.declared.event.Event.{Event}
use Rattle.proxy.specs.Lines.{IsLine, AllLines, lines_text, Gives, GivesNone, Spell, Reads, Faulty}
use Rattle.proxy.specs.Lines.{Unended, NoEvent}
use Rattle.journal_text.specs.declared.line_kind.LineKind.{LineKind}
use Rattle.journal_text.proofs.FaultSpellsNone.{fault_spells_none}
use Rattle.journal_text.proofs.OneEvent.{one_event}

-- one line at the front of a text
not_lf : (n : ℕ) → nat_eq n 10 ≡ false → n ≡ 10 → ⊥
not_lf n h e = (let t : nat_eq n 10 ≡ true = grind (arith, nat_tests) in cc)

one_cut : (a b x y : List ℕ) → IsLine a → IsLine b → a ++ 10 ∷ x ≡ b ++ 10 ∷ y → (a ≡ b) × (x ≡ y)
one_cut [] [] x y p q e = (refl, cc)
one_cut [] (c ∷ b) x y p q e = absurd (not_lf c q.0 (sym (let k : 10 ≡ c = cc in k)))
one_cut (c ∷ a) [] x y p q e = absurd (not_lf c p.0 (let k : c ≡ 10 = cc in k))
one_cut (c ∷ a) (d ∷ b) x y p q e =
    let h : c ≡ d = cc in
    let t : a ++ 10 ∷ x ≡ b ++ 10 ∷ y = cc in
    let r = one_cut a b x y p.1 q.1 t in
    (ap (λ n. n ∷ a) h ∙ ap (λ l. d ∷ l) r.0, r.1)

-- the same text, the oldest line first
forward : List (List ℕ) → List ℕ
forward [] = []
forward (line ∷ lines) = line ++ 10 ∷ forward lines

forward_joined : (a b : List (List ℕ)) → forward (a ++ b) ≡ forward a ++ forward b
unfolding forward
forward_joined [] b = refl
forward_joined (line ∷ a) b = ap (λ t. line ++ 10 ∷ t) (forward_joined a b) ∙ sym (append_assoc line (10 ∷ forward a) (forward b))

turned : (lines : List (List ℕ)) → lines_text lines ≡ forward (reverse lines)
unfolding forward
turned [] = refl
turned (line ∷ lines) =
    let e : reverse (line ∷ lines) ≡ reverse lines ++ line ∷ [] = reverse-append (line ∷ []) lines in
    ap (λ t. t ++ (line ++ 10 ∷ [])) (turned lines) ∙ sym (ap forward e ∙ forward_joined (reverse lines) (line ∷ []))

all_joined : (a b : List (List ℕ)) → AllLines a → AllLines b → AllLines (a ++ b)
all_joined [] b p q = q
all_joined (l ∷ a) b p q = (p.0, all_joined a b p.1 q)

all_turned : (lines : List (List ℕ)) → AllLines lines → AllLines (reverse lines)
all_turned [] h = tt
all_turned (line ∷ lines) h =
    let e : reverse (line ∷ lines) ≡ reverse lines ++ line ∷ [] = reverse-append (line ∷ []) lines in
    subst AllLines (sym e) (all_joined (reverse lines) (line ∷ []) (all_turned lines h.1) (h.0, tt))

-- the lines of a longer text begin with those of its front
record Longer (a b : List (List ℕ)) (rest : List ℕ) : Type 0 where
  more : List (List ℕ)
  whole : a ≡ b ++ more
  rest_is : rest ≡ forward more

lf_in : (line rest : List ℕ) → IsLine (line ++ 10 ∷ rest) → ⊥
lf_in [] rest h = cc
lf_in (b ∷ line) rest h = lf_in line rest h.1

longer : (a b : List (List ℕ)) (rest : List ℕ) → AllLines a → AllLines b → forward a ≡ forward b ++ rest → Longer a b rest
unfolding forward
longer a [] rest p q e = record { more = a; whole = refl; rest_is = sym e }
longer [] (m ∷ b) rest p q e = absurd (lf_in m (forward b ++ rest) (subst IsLine (e ∙ append_assoc m (10 ∷ forward b) rest) tt))
longer (l ∷ a) (m ∷ b) rest p q e =
    let c = one_cut l m (forward a) (forward b ++ rest) p.0 q.0 (e ∙ append_assoc m (10 ∷ forward b) rest) in
    let k = longer a b rest p.1 q.1 c.1 in
    record { more = k.more; whole = ap (λ x. x ∷ a) c.0 ∙ ap (λ x. m ∷ x) k.whole; rest_is = k.rest_is }

-- the same lines spell the same events
same_gives : (line : List ℕ) (a b : Event) → Gives line a → Gives line b → a ≡ b
same_gives line a b p q = one_event line a b p.spells q.spells

same_events : (lines : List (List ℕ)) (a b : List Event) → Spell lines a → Spell lines b → a ≡ b
same_events [] a b p q = p ∙ sym q
same_events (line ∷ lines) a b (inl p) (inl q) = same_events lines a b p.1 q.1
same_events (line ∷ lines) a b (inl p) (inr q) = absurd (q.3.not_skipped p.0)
same_events (line ∷ lines) a b (inr p) (inl q) = absurd (p.3.not_skipped q.0)
same_events (line ∷ lines) a b (inr p) (inr q) =
    let before : p.1 ≡ q.1 = same_events lines p.1 q.1 p.4 q.4 in
    let event : p.0 ≡ q.0 = same_gives line p.0 q.0 p.3 q.3 in
    p.2 ∙ ap (λ e. e ∷ p.1) event ∙ ap (λ x. q.0 ∷ x) before ∙ sym q.2

-- the front of lines that spell spells too
front_spells : (newer lines : List (List ℕ)) (events : List Event) → Spell (newer ++ lines) events → (before : List Event) × Spell lines before
front_spells [] lines events s = (events, s)
front_spells (l ∷ newer) lines events (inl s) = front_spells newer lines events s.1
front_spells (l ∷ newer) lines events (inr s) = front_spells newer lines s.1 s.4

-- a line that spells isn't faulty
line_not_faulty : (kind : LineKind) (line : List ℕ) (lines : List (List ℕ)) (events : List Event) → Spell (line ∷ lines) events → GivesNone line kind → ⊥
line_not_faulty kind line lines events (inl s) g = g.not_skipped s.0
line_not_faulty kind line lines events (inr s) g = fault_spells_none line kind g.found_memory g.fails s.0 s.3.spells

-- the oldest of the lines behind a front
behind : (newer : List (List ℕ)) (line : List ℕ) (lines : List (List ℕ)) (events : List Event) → Spell (reverse (line ∷ newer) ++ lines) events → (before : List Event) × Spell (line ∷ lines) before
behind newer line lines events s =
    let e : reverse (line ∷ newer) ++ lines ≡ reverse newer ++ (line ∷ lines) = ap (λ x. x ++ lines) (reverse-append (line ∷ []) newer) ∙ append_assoc (reverse newer) (line ∷ []) lines in
    front_spells (reverse newer) (line ∷ lines) events (subst (λ x. Spell x events) e s)

unended_false : (more : List (List ℕ)) (rest : List ℕ) → rest ≡ forward more → IsLine rest → (rest ≡ [] → ⊥) → ⊥
unfolding forward
unended_false [] rest e is some = some e
unended_false (m ∷ more) rest e is some = lf_in m (forward more) (subst IsLine e is)

no_event_false : (kind : LineKind) (more lines : List (List ℕ)) (events : List Event) (line rest : List ℕ) → line ++ 10 ∷ rest ≡ forward more → AllLines more → Spell (reverse more ++ lines) events → IsLine line → GivesNone line kind → ⊥
unfolding forward
no_event_false kind [] lines events line rest e all s is g = lf_in line rest (subst IsLine (sym e) tt)
no_event_false kind (m ∷ more) lines events line rest e all s is g =
    let c = one_cut line m rest (forward more) is all.0 e in
    let k = behind more m lines events s in
    line_not_faulty kind m lines k.0 k.1 (subst (λ l. GivesNone l kind) c.0 g)

faulty_false : (more lines : List (List ℕ)) (events : List Event) (text : List ℕ) (kind : LineKind) → Faulty text kind → text ≡ forward more → AllLines more → Spell (reverse more ++ lines) events → ⊥
faulty_false more lines events text kind (Unended rest k is some ends) e all s = unended_false more text e is some
faulty_false more lines events text kind (NoEvent line rest k is g) e all s = no_event_false k more lines events line rest e all s is g

later_lines : (a b : List (List ℕ)) → AllLines (a ++ b) → AllLines b
later_lines [] b h = h
later_lines (l ∷ a) b h = later_lines a b h.1

-- lines that are a text are those of its front, and more that are the rest
record Behind (a b : List (List ℕ)) (rest : List ℕ) : Type 0 where
  more : List (List ℕ)
  lines : a ≡ reverse more ++ b
  rest_is : rest ≡ forward more
  all_lines : AllLines more

front_lines : (a b : List (List ℕ)) (rest : List ℕ) → AllLines a → AllLines b → lines_text a ≡ lines_text b ++ rest → Behind a b rest
front_lines a b rest p q e =
    let forwards : forward (reverse a) ≡ forward (reverse b) ++ rest = sym (turned a) ∙ e ∙ ap (λ t. t ++ rest) (turned b) in
    let k = longer (reverse a) (reverse b) rest (all_turned a p) (all_turned b q) forwards in
    record {
      more = k.more;
      lines = sym (reverse-reverse a) ∙ ap reverse k.whole ∙ reverse-append (reverse b) k.more ∙ ap (λ x. reverse k.more ++ x) (reverse-reverse b);
      rest_is = k.rest_is;
      all_lines = later_lines (reverse b) k.more (subst AllLines k.whole (all_turned a p));
    }

-- a schedule whose lines spell events has no faulty line behind any front of it
pub whole_has_no_fault : (schedule text rest : List ℕ) (m n : ℕ) (events before : List Event) (kind : LineKind) → Reads schedule m events → schedule ≡ text ++ rest → Reads text n before → Faulty rest kind → ⊥
whole_has_no_fault schedule text rest m n events before kind r is f fault =
    let k = front_lines r.lines f.lines rest r.all_lines f.all_lines (sym r.text_is ∙ is ∙ ap (λ t. t ++ rest) f.text_is) in
    faulty_false k.more f.lines events rest kind fault k.rest_is k.all_lines (subst (λ x. Spell x events) k.lines r.spell)

none_more : (more lines : List (List ℕ)) (before events : List Event) → [] ≡ forward more → Spell lines before → Spell (reverse more ++ lines) events → before ≡ events
unfolding forward
none_more [] lines before events e s t = same_events lines before events s t
none_more (m ∷ more) lines before events e s t = absurd (lf_in m (forward more) (subst IsLine e tt))

-- a schedule is read as the same events
pub read_once : (schedule : List ℕ) (m n : ℕ) (events before : List Event) → Reads schedule m events → Reads schedule n before → before ≡ events
read_once schedule m n events before r f =
    let k = front_lines r.lines f.lines [] r.all_lines f.all_lines (sym r.text_is ∙ f.text_is ∙ sym (append-nil (lines_text f.lines))) in
    none_more k.more f.lines before events k.rest_is f.spell (subst (λ x. Spell x events) k.lines r.spell)
