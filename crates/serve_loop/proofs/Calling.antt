-- Calls, and what became of their answers.
use Rattle.std.proofs.Common.{◌≡◌, ℕ, ◌<◌, ◌≤◌, List, [], ◌∷◌, ◌++◌, length, take, Bool, true, false, Option, Some, None, refl, sym, subst, inl, inr, arith}
use Rattle.std.specs.Prelude.{if◌then◌else◌, ◌==◌, Ok}
use Rattle.std.proofs.lemmas.List.{append-nil}
use Rattle.std.proofs.lemmas.Grind.{common_steps}
use Rattle.px_bytes.specs.declared.addr.Side.{Side}
use Rattle.px_outside.specs.declared.answers.ReadyAt.{ReadyAt}
use Rattle.px_outside.specs.declared.answers.ReadAnswer.{ReadAnswer}
use Rattle.px_outside.specs.declared.answers.ReadAnswer.TheVariants as read
use Rattle.px_outside.specs.declared.answers.WriteAnswer.{WriteAnswer}
use Rattle.px_outside.specs.declared.answers.WriteAnswer.TheVariants as write
use Rattle.px_outside.specs.Net.{Call, Chain, Wait, Write, got, ReadsWithin, WritesWithin}
use Rattle.core_events.specs.declared.event.Event.{Event}
use Rattle.serve_loop.specs.declared.links.Links.{Links}
use Rattle.serve_loop.specs.Links.{link_in}
use Rattle.serve_loop.specs.declared.polled.Polled.{Polled}
use Rattle.serve_loop.specs.declared.polled.Polled.TheVariants as is
use Rattle.serve_loop.specs.declared.serving.Serving.{Serving}
use Rattle.serve_loop.specs.Carrying.{Known}
use Rattle.serve_loop.specs.Events.{Tells, read_event, write_event, group_text}
use Rattle.core_events.specs.Face.{Face, MayCome, MayTake}
use Rattle.serve_loop.specs.Walk.{Around, Given, Step, Asked as Asks, Own, MayCall, AfterCall, Calls}
use Rattle.serve_loop.specs.Part.{stand, Part, IsGiven}
use Rattle.serve_loop.specs.Asking.{IsOn, takes_back, OneCall, IsUnknown, AskedOnce}
use Rattle.serve_loop.specs.Writing.{NothingToWrite, OneWrite, WroteOnce, asked_of}
use Rattle.serve_loop.specs.Running.{OwnStep}
use Rattle.serve_loop.specs.Turn.{Waits}
use Rattle.serve_loop.proofs.Chains.{chain_append}
use Rattle.serve_loop.proofs.Fresh.{once_none, once_then, owners_same, owners_then}
use Rattle.serve_loop.specs.Fresh.{GivesOnce, OwnersStay, links_given}
use Rattle.serve_loop.proofs.Compose.{part_less, part_at, part_nothing, tells_nothing}

-- a call, whose answer became this event, and what became of that
pub record CallStep {C : Type 0} (face : Face C) (conns : ℕ) (call : Call) (event : Option Event) (a : Around C) (steps : List Step) (b : Around C)
    : Type 0 where
  pub given : Option Given
  pub steps_are : steps ≡ Asks call given ∷ []
  pub calls : Calls face conns a call given b
  pub becomes : calls.event ≡ event

-- a call whose answer becomes no event
pub call_quiet : {C S : Type 0} {face : Face C} {did : S → Call → S → Type 0} {gave : S → ℕ → Type 0} {conns : ℕ}
    (x : Serving C) (n m : S) (call : Call) → did n call m → GivesOnce (gave n) (gave m) (links_given (call ∷ []))
    → MayCall face conns (stand x) call None → AfterCall face (stand x) call x.links
    → Part face did gave (CallStep face conns call None) x x n m
call_quiet x n m call d once may after = record {
  from = λ s. record {
    made = record {
      steps = Asks call None ∷ [];
      chain = (m, d, refl);
      leads = record {
        given = None;
        steps_are = refl;
        calls = record { event = None; may = may; links = x.links; after = after; becomes = refl };
        becomes = refl;
      };
      ready = record { stands = s.stands; known = λ l r e. once.lasts l (s.known l r e) };
      once = once;
      owners = owners_same _ x.links;
    };
    told = tells_nothing x.journal;
    conns = refl;
  };
}

-- a call whose answer is given to the core
pub call_heard : {C S : Type 0} {face : Face C} {did : S → Call → S → Type 0} {gave : S → ℕ → Type 0} {conns : ℕ}
    (x : Serving C) (t : Links) (y : Serving C) (n m k : S) (call : Call) (e : Event)
    → did n call m → GivesOnce (gave n) (gave m) (links_given (call ∷ [])) → OwnersStay (gave n) x.links t
    → (Known (gave n) x.links → Known (gave m) t) → MayCall face conns (stand x) call (Some e) → AfterCall face (stand x) call t → face.takes x.core e
    → IsGiven face did gave e (record x { links = t }) y m k → Part face did gave (CallStep face conns call (Some e)) x y n k
call_heard {C} {S} {face} {did} {gave} x t y n m k call e d once owners known may after takes given = record {
  from = λ s.
      let it = given.from (record { stands = s.stands; known = known s.known }) takes in record {
        made = record {
          steps = Asks call (Some it.given) ∷ [];
          chain = chain_append did (call ∷ it.given.calls) [] n k k (m, d, it.chain) refl;
          leads = record {
            given = Some it.given;
            steps_are = refl;
            calls = record { event = Some e; may = may; links = t; after = after; becomes = it.gives };
            becomes = refl;
          };
          ready = it.ready;
          once = subst (λ (l : List Call). GivesOnce (gave n) (gave k) (links_given (call ∷ l))) (sym (append-nil it.given.calls))
              (once_then (gave n) (gave m) (gave k) (call ∷ []) it.given.calls once it.once);
          owners = owners_then (gave n) (gave m) x.links t y.links once.lasts owners it.owners;
        };
        told = subst (λ (l : List ℕ). Tells x.journal y.journal l)
            (sym (append-nil (group_text it.given.event it.given.group))) it.told;
        conns = it.conns;
      };
}

one_call : {C : Type 0} (face : Face C) (conns : ℕ) (at : ReadyAt) (call : Call) (o : Option Event) → IsOn at call → (a : Around C) (steps : List Step)
    (b : Around C) → CallStep face conns call o a steps b → OneCall face conns at (takes_back call) a steps b
one_call face conns at call o on a steps b r =
    record { call = call; given = r.given; steps_are = r.steps_are; on = on; over_is = refl; calls = r.calls }

pub part_quiet : {C S : Type 0} {face : Face C} {did : S → Call → S → Type 0} {gave : S → ℕ → Type 0} {conns : ℕ}
    (at : ReadyAt) (x : Serving C) (n m : S) (call : Call) → did n call m → GivesOnce (gave n) (gave m) (links_given (call ∷ [])) → IsOn at call
    → MayCall face conns (stand x) call None → AfterCall face (stand x) call x.links
    → Part face did gave (OneCall face conns at (takes_back call)) x x n m
part_quiet {face = face} {conns = conns} at x n m call d once on may after =
    part_less (one_call face conns at call None on) (call_quiet x n m call d once may after)

pub part_heard : {C S : Type 0} {face : Face C} {did : S → Call → S → Type 0} {gave : S → ℕ → Type 0} {conns : ℕ}
    (at : ReadyAt) (x : Serving C) (t : Links) (y : Serving C) (n m k : S) (call : Call) (e : Event)
    → did n call m → GivesOnce (gave n) (gave m) (links_given (call ∷ [])) → OwnersStay (gave n) x.links t
    → (Known (gave n) x.links → Known (gave m) t) → IsOn at call
    → MayCall face conns (stand x) call (Some e) → AfterCall face (stand x) call t → face.takes x.core e
    → IsGiven face did gave e (record x { links = t }) y m k
    → Part face did gave (OneCall face conns at (takes_back call)) x y n k
part_heard {face = face} {conns = conns} at x t y n m k call e d once owners known on may after takes given =
    part_less (one_call face conns at call (Some e) on) (call_heard x t y n m k call e d once owners known may after takes given)

pub part_again : {C S : Type 0} {face : Face C} {did : S → Call → S → Type 0} {gave : S → ℕ → Type 0} {conns : ℕ} {at : ReadyAt}
    {x y : Serving C} {n m : S} → Part face did gave (OneCall face conns at false) x y n m
    → Part face did gave (AskedOnce face conns at is.Again) x y n m
part_again p = part_less (λ a steps b r. r) p

pub part_over : {C S : Type 0} {face : Face C} {did : S → Call → S → Type 0} {gave : S → ℕ → Type 0} {conns : ℕ} {at : ReadyAt}
    {x y : Serving C} {n m : S} → Part face did gave (OneCall face conns at true) x y n m
    → Part face did gave (AskedOnce face conns at is.Over) x y n m
part_over p = part_less (λ a steps b r. inl r) p

pub part_unknown : {C S : Type 0} {face : Face C} {did : S → Call → S → Type 0} {gave : S → ℕ → Type 0} (conns : ℕ) (at : ReadyAt)
    (x : Serving C) (n : S) → IsUnknown face (stand x) at → Part face did gave (AskedOnce face conns at is.Over) x x n n
part_unknown conns at x n why =
    part_nothing (AskedOnce _ conns at is.Over) x n (inr (record { none = refl; same = refl; because = why }))

pub part_read : {C S : Type 0} {face : Face C} {did : S → Call → S → Type 0} {gave : S → ℕ → Type 0} {conns : ℕ} {at : ReadyAt}
    {x y : Serving C} {n m : S} (b : Bool) → Part face did gave (OneCall face conns at b) x y n m
    → Part face did gave (AskedOnce face conns at (if b then is.Over else is.Again)) x y n m
part_read true p = part_over p
part_read false p = part_again p

take_within : (k n : ℕ) (bytes : List ℕ) → k ≤ n → length (take k bytes) ≤ n
take_within k n bytes le = grind (arith, common_steps)

some_same : (x y : Event) → Some x ≡ Some y → x ≡ y
some_same x y e = cc

within_both : (k n m : ℕ) → k ≤ n → n ≤ m → k ≤ m
within_both k n m x y = omega arith

-- the event of a read isn't refused
pub takes_read : {takes : Event → Type 0} (c : ℕ) (side : Side) (wanted n : ℕ) (answer : ReadAnswer) (room : List ℕ) (e : Event)
    → MayCome takes c side wanted → ReadsWithin n answer → n ≤ wanted → read_event c side answer (got answer room) ≡ Some e → takes e
takes_read {takes} c side wanted n (read.Got k) room e may within le is =
    subst takes (some_same _ e is) (may.bytes (take k room) (take_within k wanted room (within_both k n wanted within.1 le)))
takes_read {takes} c side wanted n read.NotYet room e may within le is = cc
takes_read {takes} c side wanted n read.End room e may within le is = subst takes (some_same _ e is) may.ended
takes_read {takes} c side wanted n read.Reset room e may within le is = subst takes (some_same _ e is) may.reset

pub got_whole : (answer : ReadAnswer) (n m : ℕ) (xs ys : List ℕ) → ReadsWithin n answer → n ≡ length xs → n ≤ m
    → got answer xs ≡ got answer (take m (xs ++ ys))
got_whole (read.Got k) n m xs ys within is le = grind (arith, common_steps)
got_whole read.NotYet n m xs ys within is le = refl
got_whole read.End n m xs ys within is le = refl
got_whole read.Reset n m xs ys within is le = refl

pub nothing_to_write : {C S : Type 0} {face : Face C} {did : S → Call → S → Type 0} {gave : S → ℕ → Type 0} (conns c : ℕ) (side : Side)
    (x : Serving C) (n : S) → NothingToWrite face c side (stand x) → Part face did gave (WroteOnce face conns c side is.Over) x x n n
nothing_to_write {face = face} conns c side x n why =
    part_nothing (WroteOnce face conns c side is.Over) x n (inr (record { none = refl; same = refl; because = why }))

-- a call that wrote what is pending to a side
wrote : {C : Type 0} (face : Face C) (conns c : ℕ) (side : Side) (link : ℕ) (bytes : List ℕ) (answer : WriteAnswer) (a : Around C) (steps : List Step)
    (b : Around C) → link_in a.links c side ≡ Some link → face.queue a.core c side bytes → WritesWithin (length bytes) answer
    → CallStep face conns (Write link bytes answer) (write_event c side answer) a steps b → OneWrite face conns c side (asked_of answer) a steps b
wrote face conns c side link bytes answer a steps b linked queued within r = record {
  link = link;
  bytes = bytes;
  answer = answer;
  given = r.given;
  steps_are = r.steps_are;
  linked = linked;
  queued = queued;
  within = within;
  asked_is = refl;
  calls = r.calls;
  becomes = r.becomes;
}

once_by : {C : Type 0} (face : Face C) (conns c : ℕ) (side : Side) (o : Polled) (a : Around C) (steps : List Step) (b : Around C)
    → OneWrite face conns c side o a steps b → WroteOnce face conns c side o a steps b
once_by face conns c side is.Again a steps b w = w
once_by face conns c side is.Stays a steps b w = w
once_by face conns c side is.Over a steps b w = inl w

pub part_wrote : {C S : Type 0} {face : Face C} {did : S → Call → S → Type 0} {gave : S → ℕ → Type 0} {conns : ℕ} (c : ℕ) (side : Side)
    (link : ℕ) (bytes : List ℕ) (answer : WriteAnswer) (o : Option Event) {x y : Serving C} {n m : S} → link_in x.links c side ≡ Some link
    → face.queue x.core c side bytes → WritesWithin (length bytes) answer → o ≡ write_event c side answer
    → Part face did gave (CallStep face conns (Write link bytes answer) o) x y n m
    → Part face did gave (WroteOnce face conns c side (asked_of answer)) x y n m
part_wrote {face = face} {conns = conns} c side link bytes answer o {x} {y} linked queued within becomes p =
    part_at (λ steps r. once_by face conns c side (asked_of answer) (stand x) steps (stand y)
    (wrote face conns c side link bytes answer (stand x) steps (stand y) linked queued within
    (subst (λ e. CallStep face conns (Write link bytes answer) e (stand x) steps (stand y)) becomes r))) p

pub takes_write : {takes : Event → Type 0} (c : ℕ) (side : Side) (len : ℕ) (answer : WriteAnswer) (e : Event)
    → MayTake takes c side len → WritesWithin len answer → write_event c side answer ≡ Some e → takes e
takes_write {takes} c side len (write.Took k) e may within is = subst takes (some_same _ e is) (may.took k within.1)
takes_write {takes} c side len write.NotYet e may within is = cc
takes_write {takes} c side len write.Reset e may within is = subst takes (some_same _ e is) may.broken

-- a wait that answered
pub part_waits : {C S : Type 0} {face : Face C} {did : S → Call → S → Type 0} {gave : S → ℕ → Type 0} (until : ℕ) (listed : List ReadyAt)
    (x : Serving C) (n m : S) → did n (Wait until listed (Ok tt)) m → ((l : ℕ) → gave n l → gave m l) → Part face did gave (Waits until listed) x x n m
part_waits until listed x n m d lasts = record {
  from = λ s. record {
    made = record {
      steps = Asks (Wait until listed (Ok tt)) None ∷ [];
      chain = (m, d, refl);
      leads = record { waits = refl; same = refl };
      ready = record { stands = s.stands; known = λ l r e. lasts l (s.known l r e) };
      once = once_none lasts;
      owners = owners_same _ x.links;
    };
    told = tells_nothing x.journal;
    conns = refl;
  };
}

-- an event of the loop's own
pub part_own : {C S : Type 0} {face : Face C} {did : S → Call → S → Type 0} {gave : S → ℕ → Type 0} (e : Event) {x y : Serving C} {n m : S}
    → (face.stands x.core → face.takes x.core e) → IsGiven face did gave e x y n m → Part face did gave (OwnStep face e) x y n m
part_own {C} {S} {face} {did} {gave} e {x} {y} {n} {m} takes given = record {
  from = λ s.
      let it = given.from s (takes s.stands) in record {
        made = record {
          steps = Own it.given ∷ [];
          chain = subst (λ cs. Chain did n cs m) (sym (append-nil it.given.calls)) it.chain;
          leads = record { given = it.given; steps_are = refl; gives = it.gives };
          ready = it.ready;
          once = subst (λ (l : List Call). GivesOnce (gave n) (gave m) (links_given l)) (sym (append-nil it.given.calls)) it.once;
          owners = it.owners;
        };
        told = subst (λ (l : List ℕ). Tells x.journal y.journal l)
            (sym (append-nil (group_text it.given.event it.given.group))) it.told;
        conns = it.conns;
      };
}

pub is_nothing : (xs : List ℕ) → true ≡ (length xs == 0) → xs ≡ []
is_nothing xs e = grind (arith, common_steps)

pub is_some : (xs : List ℕ) → false ≡ (length xs == 0) → 0 < length xs
is_some xs e = grind (arith, common_steps)
