-- Parts that broke off, behind parts that are whole.
use Rattle.std.proofs.Common.{◌≡◌, ℕ, List, [], ◌∷◌, ◌++◌, Bool, true, Option, Some, None, refl, sym, subst, append_assoc}
use Rattle.std.proofs.lemmas.List.{append-nil}
use Rattle.px_outside.specs.Net.{Call, Chain}
use Rattle.core_events.specs.declared.event.Event.{Event}
use Rattle.serve_loop.specs.declared.links.Links.{Links}
use Rattle.serve_loop.specs.declared.serving.Serving.{Serving}
use Rattle.serve_loop.specs.declared.poll.Poll.{Poll}
use Rattle.serve_loop.specs.Broken.{Broken, Unbegun, Ungiven, OwnSome, AskedSome, steps_of, Breaks, BrokenWalk, BrokeBy, IsBroken}
use Rattle.serve_loop.specs.Broken.{GivesOrNot, IsGivenSome, AreAsks}
use Rattle.serve_loop.specs.Carrying.{Known}
use Rattle.serve_loop.specs.Events.{Tells, TellsFront, group_text}
use Rattle.core_events.specs.Face.{Face}
use Rattle.serve_loop.specs.Fresh.{GivesOnce, links_given}
use Rattle.serve_loop.specs.Often.{Each}
use Rattle.serve_loop.specs.Part.{stand, Made, Happens, Part}
use Rattle.serve_loop.specs.Turn.{WorkAt}
use Rattle.serve_loop.specs.Walk.{Around, Given, Step, Own, Asked, MayCall, AfterCall, IsOwn, Walks, calls_in, text_in, given_calls, given_text}
use Rattle.serve_loop.proofs.Chains.{chain_append}
use Rattle.serve_loop.proofs.Compose.{calls_append, text_append, walks_append, once_steps, tells_then, tells_nothing}
use Rattle.serve_loop.proofs.Fresh.{all_append, once_none, once_then, owners_same, owners_then}
use Rattle.serve_loop.proofs.Fronts.{tells_whole, tells_behind}
use Rattle.serve_loop.proofs.Walking.{Goes, all_goes}

-- a step alone
unfoldable pub breaks_off : {C S : Type 0} {face : Face C} {did : S → Call → S → Type 0} {gave : S → ℕ → Type 0} {conns : ℕ} {short : Bool} {a : Around C}
    {core : C} {n m : S} (x : Broken) → Breaks face conns short a x core → Chain did n (calls_in (steps_of x)) m → face.stands core
    → GivesOnce (gave n) (gave m) (links_given (calls_in (steps_of x))) → BrokenWalk face did gave conns short a core n m
breaks_off {a = a} x breaks chain stands once = record {
  steps = [];
  mid = a;
  walks = refl;
  broken = x;
  breaks = breaks;
  chain = chain;
  stands = stands;
  once = once;
  owners = owners_same _ a.links;
}

-- whole steps before
unfoldable pub breaks_behind : {C S : Type 0} {face : Face C} {did : S → Call → S → Type 0} {gave : S → ℕ → Type 0}
    {R : Around C → List Step → Around C → Type 0} {conns later : ℕ} {short : Bool} {a b : Around C} {core : C} {n m k : S} → later ≡ conns
    → (one : Made face did gave R a b n m) → Walks face conns a one.steps b → BrokenWalk face did gave later short b core m k
    → BrokenWalk face did gave conns short a core n k
breaks_behind {C} {S} {face} {did} {gave} {R} {conns} {later} {short} {a} {b} {core} {n} {m} {k} same one walks two =
    let rest : List Step = two.steps ++ steps_of two.broken in
    let all : (one.steps ++ two.steps) ++ steps_of two.broken ≡ one.steps ++ rest = append_assoc one.steps two.steps (steps_of two.broken) in
    record {
      steps = one.steps ++ two.steps;
      mid = two.mid;
      walks = walks_append face conns one.steps two.steps a b two.mid walks
          (subst (λ (c : ℕ). Walks face c b two.steps two.mid) same two.walks);
      broken = two.broken;
      breaks = subst (λ (c : ℕ). Breaks face c short two.mid two.broken core) same two.breaks;
      chain = subst (λ (l : List Step). Chain did n (calls_in l) k) (sym all)
          (subst (λ (l : List Call). Chain did n l k) (sym (calls_append one.steps rest))
          (chain_append did (calls_in one.steps) (calls_in rest) n m k one.chain two.chain));
      stands = two.stands;
      once = subst (λ (l : List Step). GivesOnce (gave n) (gave k) (links_given (calls_in l))) (sym all)
          (once_steps (gave n) (gave m) (gave k) one.steps rest one.once two.once);
      owners = owners_then (gave n) (gave m) a.links b.links two.mid.links one.once.lasts one.owners two.owners;
    }

-- the lines of steps behind steps
pub lines_behind : (F : List ℕ → Type 0) (xs ys : List Step) (x : Broken) → F (text_in xs ++ text_in (ys ++ steps_of x))
    → F (text_in ((xs ++ ys) ++ steps_of x))
lines_behind F xs ys x p =
    subst (λ (l : List Step). F (text_in l)) (sym (append_assoc xs ys (steps_of x)))
    (subst F (sym (text_append xs (ys ++ steps_of x))) p)

-- ---- with the lines that were written down

broke_off : {C S : Type 0} {face : Face C} {did : S → Call → S → Type 0} {gave : S → ℕ → Type 0} {K : List Step → Type 0} {short : Bool}
    {x y : Serving C} {n m : S} (step : Broken) → Breaks face x.conns short (stand x) step y.core → Chain did n (calls_in (steps_of step)) m
    → face.stands y.core → GivesOnce (gave n) (gave m) (links_given (calls_in (steps_of step)))
    → TellsFront (Tells x.journal y.journal) short (text_in (steps_of step)) → K (steps_of step) → BrokeBy face did gave K short x y n m
unfolding breaks_off
broke_off step breaks chain stands once lines kind = record { walk = breaks_off step breaks chain stands once; lines = lines; kinds = kind }

pub broke_then : {C S : Type 0} {face : Face C} {did : S → Call → S → Type 0} {gave : S → ℕ → Type 0} {R : Around C → List Step → Around C → Type 0}
    {J K : List Step → Type 0} {short : Bool} {x y z : Serving C} {n m k : S} (one : Happens face did gave R x y n m)
    → Walks face x.conns (stand x) one.made.steps (stand y) → (two : BrokeBy face did gave J short y z m k)
    → K (one.made.steps ++ (two.walk.steps ++ steps_of two.walk.broken)) → BrokeBy face did gave K short x z n k
unfolding breaks_behind
broke_then {K = K} {short = short} {x} {y} {z} one walks two kinds = record {
  walk = breaks_behind one.conns one.made walks two.walk;
  lines = lines_behind (TellsFront (Tells x.journal z.journal) short) one.made.steps two.walk.steps two.walk.broken
      (tells_behind (text_in one.made.steps) (λ text told. tells_then one.told told) two.lines);
  kinds = subst K (sym (append_assoc one.made.steps two.walk.steps (steps_of two.walk.broken))) kinds;
}

-- ---- wherever the loop stood

pub broke_nothing : {C S : Type 0} {face : Face C} {did : S → Call → S → Type 0} {gave : S → ℕ → Type 0} (K : List Step → Type 0) (short : Bool)
    (x : Serving C) (n : S) → K [] → IsBroken face did gave K short x x n n
broke_nothing K short x n none = record {
  from = λ s. broke_off Unbegun refl refl s.stands (once_none (λ l there. there)) (tells_whole short [] (tells_nothing x.journal)) none;
}

pub broke_after : {C S : Type 0} {face : Face C} {did : S → Call → S → Type 0} {gave : S → ℕ → Type 0} {R : Around C → List Step → Around C → Type 0}
    {short : Bool} {x y z : Serving C} {n m k : S}
    → ((a : Around C) (l : List Step) (b : Around C) → R a l b → Goes face x.conns a l b)
    → Part face did gave R x y n m → IsBroken face did gave AreAsks short y z m k → IsBroken face did gave AreAsks short x z n k
broke_after {x = x} {y} goes p q = record {
  from = λ s.
      let one = p.from s in
      let two = q.from one.made.ready in
      let both = goes (stand x) one.made.steps (stand y) one.made.leads in
      broke_then one both.0 two (all_append _ one.made.steps (two.walk.steps ++ steps_of two.walk.broken) both.1 two.kinds);
}

-- behind what was done with each of a list
pub broke_after_all : {C S : Type 0} {face : Face C} {did : S → Call → S → Type 0} {gave : S → ℕ → Type 0} {short : Bool} (w : Poll) (order stay : List ℕ)
    {x y z : Serving C} {n m k : S} → Part face did gave (Each (WorkAt face w x.conns) order stay) x y n m → IsBroken face did gave AreAsks short y z m k
    → IsBroken face did gave AreAsks short x z n k
broke_after_all {face = face} w order stay {x} p q = broke_after (all_goes face w x.conns order stay) p q

-- a call that failed
pub broke_quiet : {C S : Type 0} {face : Face C} {did : S → Call → S → Type 0} {gave : S → ℕ → Type 0} (K : List Step → Type 0) (short : Bool)
    (x : Serving C) (n m : S) (call : Call) → did n call m → GivesOnce (gave n) (gave m) (links_given (call ∷ []))
    → MayCall face x.conns (stand x) call None → AfterCall face (stand x) call x.links → K (Asked call None ∷ [])
    → IsBroken face did gave K short x x n m
broke_quiet K short x n m call d once may after kind = record {
  from = λ s. record {
    walk = record {
      steps = Asked call None ∷ [];
      mid = stand x;
      walks = (stand x, record { event = None; may = may; links = x.links; after = after; becomes = refl }, refl);
      broken = Unbegun;
      breaks = refl;
      chain = (m, d, refl);
      stands = s.stands;
      once = once;
      owners = owners_same _ x.links;
    };
    lines = tells_whole short [] (tells_nothing x.journal);
    kinds = kind;
  };
}

-- a call, the event of whose answer wasn't given
pub broke_ungiven : {C S : Type 0} {face : Face C} {did : S → Call → S → Type 0} {gave : S → ℕ → Type 0} (K : List Step → Type 0)
    (x y : Serving C) (n m : S) (call : Call) (e : Event) → did n call m → GivesOnce (gave n) (gave m) (links_given (call ∷ []))
    → MayCall face x.conns (stand x) call (Some e) → y.core ≡ x.core → Tells x.journal y.journal [] → K (Asked call None ∷ [])
    → IsBroken face did gave K true x y n m
broke_ungiven {face = face} K x y n m call e d once may core told kind = record {
  from = λ s.
      broke_off (Ungiven call e) (refl, may, core) (m, d, refl) (subst face.stands (sym core) s.stands) once (tells_whole true [] told) kind;
}

module _ {C S : Type 0} (face : Face C) (did : S → Call → S → Type 0) (gave : S → ℕ → Type 0) where
  -- an event of the loop's own, as far as it came
  own_by : (K : List Step → Type 0) (short : Bool) (e : Event) (x y : Serving C) (n m : S) → IsOwn e → K [] → ((g : Given) → g.event ≡ e → K (Own g ∷ []))
      → (o : Option Given) → GivesOrNot face short e (stand x) o y.core → Chain did n (given_calls o) m → face.stands y.core
      → GivesOnce (gave n) (gave m) (links_given (given_calls o)) → TellsFront (Tells x.journal y.journal) short (given_text o)
      → BrokeBy face did gave K short x y n m
  own_by K short e x y n m own none kind None gives chain stands once lines = broke_off Unbegun gives.1 chain stands once lines none
  own_by K short e x y n m own none kind (Some g) gives chain stands once lines =
      broke_off (OwnSome g) (
        subst IsOwn (sym gives.event_is) own,
        record {
          event_is = refl;
          taken = subst (λ (v : Event). face.takes x.core v) (sym gives.event_is) gives.taken;
          moved = subst (λ (v : Event). face.moved x.core v g.group y.core) (sym gives.event_is) gives.moved;
          carried = gives.carried;
        },
      ) (subst (λ (l : List Call). Chain did n l m) (sym (append-nil g.calls)) chain) stands
      (subst (λ (l : List Call). GivesOnce (gave n) (gave m) (links_given l)) (sym (append-nil g.calls)) once)
      (subst (TellsFront (Tells x.journal y.journal) short) (sym (append-nil (group_text g.event g.group))) lines) (kind g gives.event_is)

  -- a call, and the event of its answer as far as it came
  heard_by : (K : List Step → Type 0) (short : Bool) (e : Event) (x : Serving C) (t : Links) (y : Serving C) (n m k : S) (call : Call)
      → did n call m → GivesOnce (gave n) (gave m) (links_given (call ∷ [])) → MayCall face x.conns (stand x) call (Some e) → AfterCall face (stand x) call t
      → ((o : Option Given) → K (Asked call o ∷ []))
      → (o : Option Given) → GivesOrNot face short e (record { core = x.core; links = t }) o y.core → Chain did m (given_calls o) k → face.stands y.core
      → GivesOnce (gave m) (gave k) (links_given (given_calls o)) → TellsFront (Tells x.journal y.journal) short (given_text o)
      → BrokeBy face did gave K short x y n k
  heard_by K short e x t y n m k call d once may after kind None gives chain stands later lines =
      broke_off (Ungiven call e) (gives.0, may, gives.1) (m, d, chain) stands (once_then (gave n) (gave m) (gave k) (call ∷ []) [] once later) lines
      (kind None)
  heard_by K short e x t y n m k call d once may after kind (Some g) gives chain stands later lines =
      broke_off (AskedSome call g) (record { event = e; may = may; links = t; after = after; gives = gives })
      (chain_append did (call ∷ g.calls) [] n k k (m, d, chain) refl) stands
      (subst (λ (l : List Call). GivesOnce (gave n) (gave k) (links_given (call ∷ l))) (sym (append-nil g.calls))
      (once_then (gave n) (gave m) (gave k) (call ∷ []) g.calls once later))
      (subst (TellsFront (Tells x.journal y.journal) short) (sym (append-nil (group_text g.event g.group))) lines) (kind (Some g))

pub broke_own : {C S : Type 0} {face : Face C} {did : S → Call → S → Type 0} {gave : S → ℕ → Type 0} (K : List Step → Type 0) {short : Bool} (e : Event)
    {x y : Serving C} {n m : S} → IsOwn e → K [] → ((g : Given) → g.event ≡ e → K (Own g ∷ [])) → (face.stands x.core → face.takes x.core e)
    → IsGivenSome face did gave short e x y n m → IsBroken face did gave K short x y n m
broke_own {C} {S} {face} {did} {gave} K {short} e {x} {y} {n} {m} own none kind takes given = record {
  from = λ s.
      let it = given.from s (takes s.stands) in
      own_by face did gave K short e x y n m own none kind it.given it.gives it.chain it.stands it.once it.lines;
}

pub broke_heard : {C S : Type 0} {face : Face C} {did : S → Call → S → Type 0} {gave : S → ℕ → Type 0} (K : List Step → Type 0) {short : Bool}
    (x : Serving C) (t : Links) (y : Serving C) (n m k : S) (call : Call) (e : Event)
    → did n call m → GivesOnce (gave n) (gave m) (links_given (call ∷ []))
    → (Known (gave n) x.links → Known (gave m) t) → MayCall face x.conns (stand x) call (Some e) → AfterCall face (stand x) call t
    → ((o : Option Given) → K (Asked call o ∷ [])) → face.takes x.core e
    → IsGivenSome face did gave short e (record x { links = t }) y m k → IsBroken face did gave K short x y n k
broke_heard {C} {S} {face} {did} {gave} K {short} x t y n m k call e d once known may after kind takes given = record {
  from = λ s.
      let it = given.from (record { stands = s.stands; known = known s.known }) takes in
      heard_by face did gave K short e x t y n m k call d once may after kind it.given it.gives it.chain it.stands it.once it.lines;
}
