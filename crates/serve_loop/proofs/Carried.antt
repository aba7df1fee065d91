-- Calls that notes ask for.
use Rattle.std.proofs.Common.{◌≡◌, ℕ, List, [], ◌∷◌, ◌++◌, drop, Bool, true, false, Option, Some, None, refl, ap, sym, ◌∙◌, subst, append_assoc, inl, inr}
use Rattle.std.specs.Prelude.{nat_eq, if◌then◌else◌, Result, Ok, Err}
use Rattle.std.proofs.lemmas.List.{append-nil}
use Rattle.std.proofs.lemmas.Bool.Decides.{eqb_tells}
use Rattle.px_bytes.specs.declared.addr.Addr.{Addr}
use Rattle.px_bytes.specs.declared.addr.Side.{Side}
use Rattle.px_bytes.specs.declared.addr.Side.TheVariants as side
use Rattle.px_outside.specs.Net.{Call, Connect, Finish, Close}
use Rattle.core_events.specs.declared.note.Note.{Note}
use Rattle.serve_loop.specs.declared.links.Links.{Links}
use Rattle.serve_loop.specs.declared.link_owner.LinkOwner.{LinkOwner}
use Rattle.serve_loop.specs.Links.{owner_in, link_in, Opens, Closes}
use Rattle.px_outside.specs.declared.failed.Failed.{Failed}
use Rattle.px_outside.specs.declared.failed.Failed.TheVariants as failed
use Rattle.serve_loop.specs.declared.carry.Action.{Action}
use Rattle.serve_loop.specs.declared.carry.Action.TheVariants as does
use Rattle.serve_loop.specs.Carrying.{action, finish_calls, CloseLink, CarriesOne, Carries, Known, Carried}
use Rattle.serve_loop.specs.Carrying.{StopsAt, ConnectStops, CarriesUpTo, CarriedSome}
use Rattle.serve_loop.specs.Faults.{fault_of, is_memory}
use Rattle.px_outside.specs.Net.{IsNew}
use Rattle.serve_loop.proofs.Chains.{chain_append}
use Rattle.serve_loop.proofs.Fresh.{once_none, once_one, once_then, owners_same, owners_then, owners_open, owners_close}

-- a link that was given is known with its owner
known_with : (gave : ℕ → Type 0) (link l : ℕ) (b : Bool) (o : Option LinkOwner) (r : LinkOwner) (v : Option LinkOwner)
    → nat_eq link l ≡ b → (b ≡ true → v ≡ Some r → gave l) → (o ≡ Some r → gave l)
    → (if nat_eq link l then v else o) ≡ Some r → gave l
known_with gave link l true o r v is here there e =
    here refl (sym (ap (λ t. if t then v else o) is) ∙ e)
known_with gave link l false o r v is here there e =
    there (sym (ap (λ t. if t then v else o) is) ∙ e)

not_both : (b : Bool) → b ≡ true → b ≡ false → ⊥
not_both b x y = cc

none_is_some : (r : LinkOwner) → None ≡ Some r → ⊥
none_is_some r e = cc

same_number : (link l : ℕ) → nat_eq link l ≡ true → link ≡ l
same_number link l e = elim (eqb_tells link l) [ inl eq ↦ eq.1 | inr ne ↦ absurd (not_both (nat_eq link l) e ne.0) ]

pub known_open : (gave gave' : ℕ → Type 0) (a b : Links) (link c : ℕ) (s : Side) → ((l : ℕ) → gave l → gave' l)
    → gave' link → Opens a b link c s → Known gave a → Known gave' b
known_open gave gave' a b link c s lasts now opens known l r e =
    known_with gave' link l (nat_eq link l) (owner_in a l) r _ refl
    (λ is _. subst gave' (same_number link l is) now) (λ o. lasts l (known l r o)) (sym (opens.owner l) ∙ e)

pub known_close : (gave gave' : ℕ → Type 0) (a b : Links) (link c : ℕ) (s : Side) → ((l : ℕ) → gave l → gave' l)
    → Closes a b link c s → Known gave a → Known gave' b
known_close gave gave' a b link c s lasts closes known l r e =
    known_with gave' link l (nat_eq link l) (owner_in a l) r None refl
    (λ _ none. absurd (none_is_some r none)) (λ o. lasts l (known l r o)) (sym (closes.owner l) ∙ e)

pub carried_nothing : {S : Type 0} {did : S → Call → S → Type 0} {gave : S → ℕ → Type 0} (a : Links) (n : S)
    → Carried did gave (CarriesOne does.Nothing) a a n n
carried_nothing a n =
    record { calls = []; chain = refl; carried = (refl, refl); once = once_none (λ l g. g); owners = owners_same _ a; known = λ k. k }

pub carried_connect : {S : Type 0} {did : S → Call → S → Type 0} {gave : S → ℕ → Type 0} (a b : Links) (n m : S)
    (c link : ℕ) (to : Addr) → did n (Connect to (Ok link)) m → ((l : ℕ) → gave n l → gave m l)
    → IsNew (gave n) (gave m) link → Opens a b link c side.Server → Carried did gave (CarriesOne (does.Connects c to)) a b n m
carried_connect {S} {did} {gave} a b n m c link to d lasts new opens = record {
  calls = Connect to (Ok link) ∷ [];
  chain = (m, d, refl);
  carried = (link, refl, opens);
  once = once_one link new lasts;
  owners = owners_open (gave n) a b link c side.Server new.before opens;
  known = known_open (gave n) (gave m) a b link c side.Server lasts new.now opens;
}

pub carried_finish : {S : Type 0} {did : S → Call → S → Type 0} {gave : S → ℕ → Type 0} (a : Links) (n m : S)
    (c link : ℕ) (s : Side) → link_in a c s ≡ Some link → did n (Finish link) m → ((l : ℕ) → gave n l → gave m l)
    → Carried did gave (CarriesOne (does.Finishes c s)) a a n m
carried_finish a n m c link s is d lasts = record {
  calls = Finish link ∷ [];
  chain = (m, d, refl);
  carried = (sym (ap finish_calls is), refl);
  once = once_none lasts;
  owners = owners_same _ a;
  known = λ k l r e. lasts l (k l r e);
}

pub carried_no_finish : {S : Type 0} {did : S → Call → S → Type 0} {gave : S → ℕ → Type 0} (a : Links) (n : S)
    (c : ℕ) (s : Side) → link_in a c s ≡ None → Carried did gave (CarriesOne (does.Finishes c s)) a a n n
carried_no_finish a n c s is = record {
  calls = [];
  chain = refl;
  carried = (sym (ap finish_calls is), refl);
  once = once_none (λ l g. g);
  owners = owners_same _ a;
  known = λ k. k;
}

pub carried_close : {S : Type 0} {did : S → Call → S → Type 0} {gave : S → ℕ → Type 0} (a b : Links) (n m : S)
    (c link : ℕ) (s : Side) → link_in a c s ≡ Some link → did n (Close link) m → ((l : ℕ) → gave n l → gave m l)
    → Closes a b link c s → Carried did gave (CarriesOne (does.Closes c s)) a b n m
carried_close {S} {did} {gave} a b n m c link s is d lasts closes = record {
  calls = Close link ∷ [];
  chain = (m, d, refl);
  carried = subst (λ o. CloseLink o c s a (Close link ∷ []) b) (sym is) (refl, closes);
  once = once_none lasts;
  owners = owners_close (gave n) a b link c s closes;
  known = known_close (gave n) (gave m) a b link c s lasts closes;
}

pub carried_no_close : {S : Type 0} {did : S → Call → S → Type 0} {gave : S → ℕ → Type 0} (a : Links) (n : S)
    (c : ℕ) (s : Side) → link_in a c s ≡ None → Carried did gave (CarriesOne (does.Closes c s)) a a n n
carried_no_close a n c s is = record {
  calls = [];
  chain = refl;
  carried = subst (λ o. CloseLink o c s a [] a) (sym is) (refl, refl);
  once = once_none (λ l g. g);
  owners = owners_same _ a;
  known = λ k. k;
}

-- notes behind notes
pub carries_append : (xs ys : List Note) (a : Links) (cs : List Call) (b : Links) (ds : List Call) (c : Links)
    → Carries xs a cs b → Carries ys b ds c → Carries (xs ++ ys) a (cs ++ ds) c
carries_append [] ys a cs b ds c x y =
    subst (λ (l : List Call). Carries ys a (l ++ ds) c) (sym x.0) (subst (λ (t : Links). Carries ys t ds c) x.1 y)
carries_append (n ∷ xs) ys a cs b ds c x y = (
  x.0,
  x.1,
  x.2 ++ ds,
  ap (λ (l : List Call). l ++ ds) x.3 ∙ append_assoc x.1 x.2 ds,
  x.4,
  carries_append xs ys x.0 x.2 b ds c x.5 y,
)

-- the calls of the first notes
abbrev pub CarriesFirst : List Note → ℕ → Links → List Call → Links → Type 0
CarriesFirst notes i a calls b = (done : List Note) × (notes ≡ done ++ drop i notes) × Carries done a calls b

pub carries_start : {S : Type 0} {did : S → Call → S → Type 0} {gave : S → ℕ → Type 0} (notes : List Note) (a : Links) (n : S)
    → Carried did gave (CarriesFirst notes 0) a a n n
carries_start notes a n = record {
  calls = [];
  chain = refl;
  carried = ([], refl, (refl, refl));
  once = once_none (λ l g. g);
  owners = owners_same _ a;
  known = λ k. k;
}

one_carried : (note : Note) (a : Links) (calls : List Call) (b : Links) → CarriesOne (action note) a calls b → Carries (note ∷ []) a calls b
one_carried note a calls b one = (b, calls, [], sym (append-nil calls), one, (refl, refl))

first_then : (notes : List Note) (i j : ℕ) (note : Note) → drop i notes ≡ note ∷ drop j notes → (a : Links) (xs : List Call)
    (b : Links) (ys : List Call) (c : Links) → CarriesFirst notes i a xs b → CarriesOne (action note) b ys c
    → CarriesFirst notes j a (xs ++ ys) c
first_then notes i j note front a xs b ys c first one = (
  first.0 ++ note ∷ [],
  first.1 ∙ ap (λ (l : List Note). first.0 ++ l) front ∙ sym (append_assoc first.0 (note ∷ []) (drop j notes)),
  carries_append first.0 (note ∷ []) a xs b ys c first.2 (one_carried note b ys c one),
)

pub carries_next : {S : Type 0} {did : S → Call → S → Type 0} {gave : S → ℕ → Type 0} (notes : List Note) (i j : ℕ) (note : Note)
    (a b c : Links) (n m k : S) → drop i notes ≡ note ∷ drop j notes
    → Carried did gave (CarriesFirst notes i) a b n m → Carried did gave (CarriesOne (action note)) b c m k
    → Carried did gave (CarriesFirst notes j) a c n k
carries_next {S} {did} {gave} notes i j note a b c n m k front p q = record {
  calls = p.calls ++ q.calls;
  chain = chain_append did p.calls q.calls n m k p.chain q.chain;
  carried = first_then notes i j note front a p.calls b q.calls c p.carried q.carried;
  once = once_then (gave n) (gave m) (gave k) p.calls q.calls p.once q.once;
  owners = owners_then (gave n) (gave m) a b c p.once.lasts p.owners q.owners;
  known = λ x. q.known (p.known x);
}

all_first : (notes done rest : List Note) → notes ≡ done ++ rest → rest ≡ [] → done ≡ notes
all_first notes done rest e none = sym (e ∙ ap (λ (l : List Note). done ++ l) none ∙ append-nil done)

pub carries_all : {S : Type 0} {did : S → Call → S → Type 0} {gave : S → ℕ → Type 0} (notes : List Note) (i : ℕ) (a b : Links) (n m : S)
    → drop i notes ≡ [] → Carried did gave (CarriesFirst notes i) a b n m → Carried did gave (Carries notes) a b n m
carries_all {S} {did} {gave} notes i a b n m all p = record {
  calls = p.calls;
  chain = p.chain;
  carried = subst (λ (l : List Note). Carries l a p.calls b) (all_first notes p.carried.0 (drop i notes) p.carried.1 all) p.carried.2;
  once = p.once;
  owners = p.owners;
  known = p.known;
}

-- ---- where they break off

pub stops_failed : {S : Type 0} {did : S → Call → S → Type 0} {gave : S → ℕ → Type 0} (n m : S) (c : ℕ) (to : Addr) (why : Failed)
    → did n (Connect to (Err why)) m → ((l : ℕ) → gave n l → gave m l)
    → CarriedSome did gave (ConnectStops (is_memory (fault_of why)) (does.Connects c to)) n m
stops_failed n m c to failed.Failed d lasts =
    record { calls = Connect to (Err failed.Failed) ∷ []; chain = (m, d, refl); carried = (Err failed.Failed, refl, refl); once = once_none lasts }
stops_failed n m c to failed.Memory d lasts =
    record { calls = Connect to (Err failed.Memory) ∷ []; chain = (m, d, refl); carried = (Err failed.Memory, refl, tt); once = once_none lasts }

pub stops_unopened : {S : Type 0} {did : S → Call → S → Type 0} {gave : S → ℕ → Type 0} (n m : S) (c link : ℕ) (to : Addr)
    → did n (Connect to (Ok link)) m → ((l : ℕ) → gave n l → gave m l) → IsNew (gave n) (gave m) link
    → CarriedSome did gave (ConnectStops true (does.Connects c to)) n m
stops_unopened n m c link to d lasts new =
    record { calls = Connect to (Ok link) ∷ []; chain = (m, d, refl); carried = (Ok link, refl, tt); once = once_one link new lasts }

pub carries_broke : {S : Type 0} {did : S → Call → S → Type 0} {gave : S → ℕ → Type 0} (short : Bool) (notes : List Note) (i j : ℕ)
    (note : Note) (a b : Links) (n m k : S) → drop i notes ≡ note ∷ drop j notes
    → Carried did gave (CarriesFirst notes i) a b n m → CarriedSome did gave (ConnectStops short (action note)) m k
    → CarriedSome did gave (CarriesUpTo short notes a) n k
carries_broke {S} {did} {gave} short notes i j note a b n m k front p q = record {
  calls = p.calls ++ q.calls;
  chain = chain_append did p.calls q.calls n m k p.chain q.chain;
  carried = record {
    before = p.carried.0;
    note = note;
    after = drop j notes;
    notes_are = p.carried.1 ∙ ap (λ (l : List Note). p.carried.0 ++ l) front;
    mid = b;
    first = p.calls;
    last = q.calls;
    calls_are = refl;
    carried = p.carried.2;
    stops = q.carried;
  };
  once = once_then (gave n) (gave m) (gave k) p.calls q.calls p.once q.once;
}

-- what breaks off where nothing may be lost, does so where something may
stops_short : (b : Bool) (answer : Result ℕ Failed) → StopsAt b answer → StopsAt true answer
stops_short b answer s = tt

connect_short : (b : Bool) (act : Action) (calls : List Call) → ConnectStops b act calls → ConnectStops true act calls
connect_short b does.Nothing calls s = absurd s
connect_short b (does.Connects c to) calls s = (s.0, s.1, stops_short b s.0 s.2)
connect_short b (does.Finishes c side) calls s = absurd s
connect_short b (does.Closes c side) calls s = absurd s

pub up_to_short : (b : Bool) (notes : List Note) (a : Links) (calls : List Call) → CarriesUpTo b notes a calls → CarriesUpTo true notes a calls
up_to_short b notes a calls it = record {
  before = it.before;
  note = it.note;
  after = it.after;
  notes_are = it.notes_are;
  mid = it.mid;
  first = it.first;
  last = it.last;
  calls_are = it.calls_are;
  carried = it.carried;
  stops = connect_short b (action it.note) it.last it.stops;
}
