-- An event that is given to the core.
use Rattle.std.proofs.Common.{◌≡◌, ℕ, List, [], ◌++◌, Bool, true, Some, None, refl, ap, sym, ◌∙◌, subst, inl, inr}
use Rattle.std.specs.Prelude.{IsTrue}
use Rattle.px_outside.specs.Net.{Call}
use Rattle.core_events.specs.declared.note.Note.{Note}
use Rattle.core_events.specs.declared.event.Event.{Event}
use Rattle.journal_text.specs.Line.{event_line}
use Rattle.journal_text.specs.Notes.{note_lines}
use Rattle.serve_loop.specs.declared.links.Links.{Links}
use Rattle.serve_loop.specs.declared.journal.Journal.{Journal}
use Rattle.serve_loop.specs.declared.serving.Serving.{Serving}
use Rattle.serve_loop.specs.Broken.{IsGivenSome}
use Rattle.serve_loop.specs.Carrying.{Carries, Carried, CarriesUpTo, CarriesSome, CarriedSome}
use Rattle.serve_loop.specs.Events.{Tells, TellsFront}
use Rattle.core_events.specs.Face.{Face}
use Rattle.serve_loop.specs.Part.{IsGiven}
use Rattle.serve_loop.proofs.Carried.{up_to_short}
use Rattle.serve_loop.proofs.Compose.{tells_then, tells_nothing}
use Rattle.serve_loop.proofs.Fresh.{once_none}
use Rattle.serve_loop.proofs.Fronts.{tells_whole, tells_behind}

-- the notes of a step, where none were there before
pub group_items : {P : List Note → Type 0} (before items : List Note) → before ≡ []
    → (group : List Note) × (items ≡ before ++ group) × P group
    → (group : List Note) × (items ≡ group) × P group
group_items before items none it = (it.0, it.1 ∙ ap (λ (l : List Note). l ++ it.0) none, it.2)

pub given_by : {C S : Type 0} {face : Face C} {did : S → Call → S → Type 0} {gave : S → ℕ → Type 0}
    (e : Event) (x y : Serving C) (n m : S) (items : List Note) (b : Bool) (j : Journal)
    → (face.stands x.core → face.takes x.core e → b ≡ true)
    → (IsTrue b → (group : List Note) × (items ≡ group) × face.moved x.core e group y.core)
    → (face.stands x.core → face.stands y.core)
    → Carried did gave (Carries items) x.links y.links n m
    → Tells x.journal j (event_line e) → Tells j y.journal (note_lines items)
    → y.conns ≡ x.conns → IsGiven face did gave e x y n m
given_by {C} {S} {face} {did} {gave} e x y n m items b j taken moved stands carried one two conns = record {
  from = λ s t.
      let it = moved (taken s.stands t) in record {
        given = record { event = e; group = items; calls = carried.calls };
        gives = record {
          event_is = refl;
          taken = t;
          moved = subst (λ (l : List Note). face.moved x.core e l y.core) (sym it.1) it.2;
          carried = carried.carried;
        };
        chain = carried.chain;
        ready = record { stands = stands s.stands; known = carried.known s.known };
        told = tells_then one two;
        once = carried.once;
        owners = carried.owners;
        conns = conns;
      };
}

-- ---- where it breaks off

-- nothing was given
pub given_none : {C S : Type 0} {face : Face C} {did : S → Call → S → Type 0} {gave : S → ℕ → Type 0}
    (e : Event) (x y : Serving C) (n : S) → y.core ≡ x.core → y.journal ≡ x.journal → IsGivenSome face did gave true e x y n n
given_none {C} {S} {face} e x y n core journal = record {
  from = λ s t. record {
    given = None;
    gives = (refl, core);
    chain = refl;
    stands = subst face.stands (sym core) s.stands;
    once = once_none (λ l g. g);
    lines = tells_whole true [] (subst (λ (j : Journal). Tells x.journal j []) (sym journal) (tells_nothing x.journal));
  };
}

-- what came of the notes: their calls broke off, or all were made and memory was refused
pub carried_up_to : {S : Type 0} {did : S → Call → S → Type 0} {gave : S → ℕ → Type 0} (short : Bool) (notes : List Note) (a : Links) (n m : S)
    → CarriedSome did gave (CarriesUpTo short notes a) n m → CarriedSome did gave (CarriesSome short notes a) n m
carried_up_to short notes a n m p = record { calls = p.calls; chain = p.chain; carried = inl p.carried; once = p.once }

pub carried_short : {S : Type 0} {did : S → Call → S → Type 0} {gave : S → ℕ → Type 0} (short : Bool) (notes : List Note) (a : Links) (n m : S)
    → CarriedSome did gave (CarriesUpTo short notes a) n m → CarriedSome did gave (CarriesSome true notes a) n m
carried_short short notes a n m p =
    record { calls = p.calls; chain = p.chain; carried = inl (up_to_short short notes a p.calls p.carried); once = p.once }

pub carried_whole : {S : Type 0} {did : S → Call → S → Type 0} {gave : S → ℕ → Type 0} (notes : List Note) (a b : Links) (n m : S)
    → Carried did gave (Carries notes) a b n m → CarriedSome did gave (CarriesSome true notes a) n m
carried_whole notes a b n m p = record { calls = p.calls; chain = p.chain; carried = inr (refl, (b, p.carried)); once = p.once }

-- an event was given
pub given_some : {C S : Type 0} {face : Face C} {did : S → Call → S → Type 0} {gave : S → ℕ → Type 0}
    (short : Bool) (e : Event) (x y : Serving C) (n m : S) (items : List Note) (b : Bool) (j : Journal)
    → (face.stands x.core → face.takes x.core e → b ≡ true)
    → (IsTrue b → (group : List Note) × (items ≡ group) × face.moved x.core e group y.core)
    → (face.stands x.core → face.stands y.core)
    → CarriedSome did gave (CarriesSome short items x.links) n m
    → Tells x.journal j (event_line e) → TellsFront (Tells j y.journal) short (note_lines items)
    → IsGivenSome face did gave short e x y n m
given_some {C} {S} {face} {did} {gave} short e x y n m items b j taken moved stands carried one lines = record {
  from = λ s t.
      let it = moved (taken s.stands t) in record {
        given = Some (record { event = e; group = items; calls = carried.calls });
        gives = record {
          event_is = refl;
          taken = t;
          moved = subst (λ (l : List Note). face.moved x.core e l y.core) (sym it.1) it.2;
          carried = carried.carried;
        };
        chain = carried.chain;
        stands = stands s.stands;
        once = carried.once;
        lines = tells_behind (event_line e) (λ text two. tells_then one two) lines;
      };
}
