-- Where no connection runs, what is pending on an open link then was pending on it before.
use Rattle.std.proofs.Common.{◌≡◌, ◌⊎◌, ℕ, List, [], ◌∷◌, ◌++◌, Bool, true, false, ◌||◌, Option, Some, None, nat_eq, if◌then◌else◌, inl, inr}
use Rattle.std.proofs.Common.{refl, sym, subst, ◌∙◌, arith}
use Rattle.std.specs.Prelude.{Ok, Err}
use Rattle.std.specs.List.{list_any}
use Rattle.std.proofs.lemmas.List.Folds.{list_any-append}
use Rattle.std.proofs.lemmas.Grind.{common_steps}
use Rattle.px_bytes.specs.declared.addr.Addr.{Addr}
use Rattle.px_bytes.specs.declared.addr.Side.{Side}
use Rattle.px_bytes.specs.declared.addr.Side.TheVariants.{Client, Server}
use Rattle.px_outside.specs.declared.answers.Accepted.TheVariants as accepted
use Rattle.px_outside.specs.declared.answers.ConnectAnswer.TheVariants as connect
use Rattle.px_outside.specs.declared.answers.ReadAnswer.{ReadAnswer}
use Rattle.px_outside.specs.declared.answers.ReadAnswer.TheVariants as read
use Rattle.px_outside.specs.declared.answers.WriteAnswer.{WriteAnswer}
use Rattle.px_outside.specs.declared.answers.WriteAnswer.TheVariants as write
use Rattle.px_outside.specs.Net.{Call, Listen, Wait, Accept, Connect, Ask, Read, Write, Finish, Close}
use Rattle.core_events.specs.declared.note.Note.{Note}
use Rattle.core_events.specs.declared.event.Event.{Event}
use Rattle.core_events.specs.declared.event.Event.TheVariants as event
use Rattle.core_events.specs.Face.{Face}
use Rattle.serve_loop.specs.declared.carry.Action.{Action}
use Rattle.serve_loop.specs.declared.carry.Action.TheVariants as does
use Rattle.serve_loop.specs.declared.links.Links.{Links}
use Rattle.serve_loop.specs.Carrying.{action, CarriesOne, CloseLink, Carries}
use Rattle.serve_loop.specs.Events.{read_event, write_event}
use Rattle.serve_loop.specs.Links.{link_in, Opens, Closes}
use Rattle.serve_loop.specs.Pending.{Moved, IsRunOf, IsPending, PendingOn, SendsInRuns, server_asked, servers_asked}
use Rattle.serve_loop.specs.Running.{OwnStep}
use Rattle.serve_loop.specs.Walk.{Around, Given, Step, Gives, Asked as Asks, MayCall, Becomes, Calls, OpensNext}
use Rattle.serve_loop.proofs.Along.{Along}

pub either_left : (x y : Bool) → x ≡ true → (x || y) ≡ true
either_left true y e = refl
either_left false y e = cc

pub either_right : (x y : Bool) → y ≡ true → (x || y) ≡ true
either_right true y e = refl
either_right false y e = e

pub same_number : (c : ℕ) → nat_eq c c ≡ true
same_number c = grind (arith, common_steps)

other_way : (d c : ℕ) → nat_eq d c ≡ true → nat_eq c d ≡ true
other_way d c e = grind (arith, common_steps)

pub are_same : (d c : ℕ) → nat_eq d c ≡ true → d ≡ c
are_same d c e = grind (arith, common_steps)

-- ---- links

abbrev LinkedTo : Links → ℕ → Side → ℕ → Type 0
LinkedTo t c side link = link_in t c side ≡ Some link

one_closed : (b : Bool) (o : Option ℕ) (link : ℕ) → (if b then None else o) ≡ Some link → o ≡ Some link
one_closed true o link e = cc
one_closed false o link e = e

-- a link that is open behind a close was open before
pub closed_linked : (old new : Links) (l d : ℕ) (s : Side) → Closes old new l d s → (c : ℕ) (side : Side) (link : ℕ)
    → LinkedTo new c side link → LinkedTo old c side link
closed_linked old new l d Client k c Client link e = one_closed (nat_eq d c) _ link (sym (k.linked c) ∙ e)
closed_linked old new l d Client k c Server link e = sym (k.other c) ∙ e
closed_linked old new l d Server k c Client link e = sym (k.other c) ∙ e
closed_linked old new l d Server k c Server link e = one_closed (nat_eq d c) _ link (sym (k.linked c) ∙ e)

one_opened : (d c : ℕ) (b : Bool) → nat_eq d c ≡ b → (o : Option ℕ) (l link : ℕ) → (if b then Some l else o) ≡ Some link
    → (o ≡ Some link) ⊎ (nat_eq d c ≡ true)
one_opened d c true is o l link e = inr is
one_opened d c false is o l link e = inl e

-- one that is open behind an open was open before, or is this connection's
pub opened_linked : (old new : Links) (l d : ℕ) (s : Side) → Opens old new l d s → (c : ℕ) (side : Side) (link : ℕ)
    → LinkedTo new c side link → LinkedTo old c side link ⊎ (nat_eq d c ≡ true)
opened_linked old new l d Client k c Client link e = one_opened d c (nat_eq d c) refl _ l link (sym (k.linked c) ∙ e)
opened_linked old new l d Client k c Server link e = inl (sym (k.other c) ∙ e)
opened_linked old new l d Server k c Client link e = inl (sym (k.other c) ∙ e)
opened_linked old new l d Server k c Server link e = one_opened d c (nat_eq d c) refl _ l link (sym (k.linked c) ∙ e)

abbrev IsAmong : ℕ → List ℕ → Type 0
IsAmong c numbers = list_any (nat_eq c) numbers ≡ true

close_link : (o : Option ℕ) (d : ℕ) (s : Side) (a : Links) (calls : List Call) (b : Links) → CloseLink o d s a calls b → (c : ℕ) (side : Side) (link : ℕ)
    → LinkedTo b c side link → LinkedTo a c side link
close_link None d s a calls b k c side link e = subst (λ t. LinkedTo t c side link) k.1 e
close_link (Some l) d s a calls b k c side link e = closed_linked a b l d s k.1 c side link e

linked_one : (x : Action) (a : Links) (calls : List Call) (b : Links) → CarriesOne x a calls b → (c : ℕ) (side : Side) (link : ℕ)
    → LinkedTo b c side link → LinkedTo a c side link ⊎ IsAmong c (server_asked x)
linked_one does.Nothing a calls b k c side link e = inl (subst (λ t. LinkedTo t c side link) k.1 e)
linked_one (does.Connects d to) a calls b k c side link e = elim (opened_linked a b k.0 d Server k.2 c side link e) [
  | inl was ↦ inl was
  | inr is ↦ inr (either_left (nat_eq c d) false (other_way d c is))
]
linked_one (does.Finishes d s) a calls b k c side link e = inl (subst (λ t. LinkedTo t c side link) k.1 e)
linked_one (does.Closes d s) a calls b k c side link e = inl (close_link (link_in a d s) d s a calls b k c side link e)

in_front : (c : ℕ) (xs ys : List ℕ) → IsAmong c xs → IsAmong c (xs ++ ys)
in_front c xs ys e = list_any-append (nat_eq c) xs ys ∙ either_left (list_any (nat_eq c) xs) (list_any (nat_eq c) ys) e

pub behind : (c : ℕ) (xs ys : List ℕ) → IsAmong c ys → IsAmong c (xs ++ ys)
behind c xs ys e = list_any-append (nat_eq c) xs ys ∙ either_right (list_any (nat_eq c) xs) (list_any (nat_eq c) ys) e

linked_all : (notes : List Note) (a : Links) (calls : List Call) (b : Links) → Carries notes a calls b → (c : ℕ) (side : Side) (link : ℕ)
    → LinkedTo b c side link → LinkedTo a c side link ⊎ IsAmong c (servers_asked notes)
linked_all [] a calls b k c side link e = inl (subst (λ t. LinkedTo t c side link) k.1 e)
linked_all (n ∷ notes) a calls b k c side link e = elim (linked_all notes k.0 k.2 b k.5 c side link e) [
  | inl mid ↦ elim (linked_one (action n) a k.1 k.0 k.4 c side link mid) [
    | inl was ↦ inl was
    | inr asked ↦ inr (in_front c (server_asked (action n)) (servers_asked notes) asked)
  ]
  | inr asked ↦ inr (behind c (server_asked (action n)) (servers_asked notes) asked)
]

-- ---- events

never_read : (side : Side) (answer : ReadAnswer) (bytes : List ℕ) (c : ℕ) (e : Event) → Some e ≡ read_event c side answer bytes → e ≡ event.Run → ⊥
never_read Client (read.Got n) bytes c e b is = cc
never_read Client read.NotYet bytes c e b is = cc
never_read Client read.End bytes c e b is = cc
never_read Client read.Reset bytes c e b is = cc
never_read Server (read.Got n) bytes c e b is = cc
never_read Server read.NotYet bytes c e b is = cc
never_read Server read.End bytes c e b is = cc
never_read Server read.Reset bytes c e b is = cc

never_written : (side : Side) (answer : WriteAnswer) (c : ℕ) (e : Event) → Some e ≡ write_event c side answer → e ≡ event.Run → ⊥
never_written Client (write.Took n) c e b is = cc
never_written Client write.NotYet c e b is = cc
never_written Client write.Reset c e b is = cc
never_written Server (write.Took n) c e b is = cc
never_written Server write.NotYet c e b is = cc
never_written Server write.Reset c e b is = cc

some_number : (x y : ℕ) → Some x ≡ Some y → x ≡ y
some_number x y e = cc

-- an answer of the net becomes no Run
never_run : {C : Type 0} (face : Face C) (conns : ℕ) (a : Around C) (call : Call) (e : Event) → MayCall face conns a call (Some e) → e ≡ event.Run → ⊥
never_run face conns a (Listen slot at answer) e may is = absurd may
never_run face conns a (Wait until listed answer) e may is = cc
never_run face conns a (Accept slot (Ok (accepted.One link from))) e may is = let b = may.becomes in cc
never_run face conns a (Accept slot (Ok accepted.NotYet)) e may is = let b = may.1 in cc
never_run face conns a (Accept slot (Err why)) e may is = let b = may.1 in cc
never_run face conns a (Connect to answer) e may is = absurd may
never_run face conns a (Ask link connect.Connected) e may is = let b = may.becomes in cc
never_run face conns a (Ask link connect.Refused) e may is = let b = may.becomes in cc
never_run face conns a (Ask link connect.NotYet) e may is = let b = may.becomes in cc
never_run face conns a (Read link room answer bytes) e may is = never_read may.row.side answer bytes may.row.conn e may.becomes is
never_run face conns a (Write link bytes answer) e may is = never_written may.side answer may.conn e may.becomes is
never_run face conns a (Finish link) e may is = absurd may
never_run face conns a (Close link) e may is = absurd may

module _ {C : Type 0} (face : Face C) (laws : SendsInRuns face) where
  abbrev Before : Around C → Around C → ℕ → Side → ℕ → Type 0
  Before a b c side link = PendingOn face b c side link → PendingOn face a c side link

  moved_by : (e : Event) (a : Around C) (g : Given) (b : Around C) → Gives face e a g b → face.stands a.core → Moved face a.core e g.group b.core
  moved_by e a g b k s = record { stands = s; taken = k.taken; moved = k.moved }

  -- behind an event: it was before, or the connection ran
  pub gave_before : (e : Event) (a : Around C) (g : Given) (b : Around C) → Gives face e a g b → face.stands a.core → (c : ℕ) (side : Side) (link : ℕ)
      → PendingOn face b c side link → IsRunOf face a.core e c ⊎ PendingOn face a c side link
  gave_before e a g b k s c side link p =
      let m = moved_by e a g b k s in
      elim (linked_all g.group a.links g.calls b.links k.carried c side link p.linked) [
        | inl linked ↦ elim (laws.sends a.core e g.group b.core m c side p.pending) [
          | inl run ↦ inl run
          | inr was ↦ inr (record { linked = linked; pending = was })
        ]
        | inr asked ↦ inl (laws.asks a.core e g.group b.core m c asked)
      ]

  gave_quiet : (e : Event) → (e ≡ event.Run → ⊥) → (a : Around C) (g : Given) (b : Around C) → Gives face e a g b → face.stands a.core
      → (c : ℕ) (side : Side) (link : ℕ) → Before a b c side link
  gave_quiet e clash a g b k s c side link p = elim (gave_before e a g b k s c side link p) [
    | inl run ↦ absurd (clash run.is_run)
    | inr was ↦ was
  ]

  -- what stands before stands behind, and what is pending behind was pending before
  pub record Quiet (a : Around C) (steps : List Step) (b : Around C) : Type 0 where
    pub stands : face.stands a.core → face.stands b.core
    pub before : face.stands a.core → (c : ℕ) (side : Side) (link : ℕ) → Before a b c side link

  quiet_same : (a : Around C) (l : List Step) (b : Around C) → b ≡ a → Quiet a l b
  quiet_same a l b same = record {
    stands = λ s. subst (λ (x : Around C). face.stands x.core) (sym same) s;
    before = λ s c side link p. subst (λ (x : Around C). PendingOn face x c side link) same p;
  }

  pub quiet_then : (a : Around C) (l : List Step) (b : Around C) (k : List Step) (c : Around C) → Quiet a l b → Quiet b k c → Quiet a (l ++ k) c
  quiet_then a l b k c one two = record {
    stands = λ s. two.stands (one.stands s);
    before = λ s n side link p. one.before s n side link (two.before (one.stands s) n side link p);
  }

  -- where links were closed before
  quiet_links : (a : Around C) (t : Links) (l : List Step) (b : Around C) → ((c : ℕ) (side : Side) (link : ℕ) → LinkedTo t c side link → LinkedTo a.links c side link)
      → Quiet (record { core = a.core; links = t }) l b → Quiet a l b
  quiet_links a t l b less q = record {
    stands = q.stands;
    before = λ s c side link p. (let m = q.before s c side link p in record { linked = less c side link m.linked; pending = m.pending });
  }

  pub quiet_own : (e : Event) → (e ≡ event.Run → ⊥) → (a : Around C) (l : List Step) (b : Around C) → OwnStep face e a l b → Quiet a l b
  quiet_own e clash a l b it = record {
    stands = λ s. laws.stands a.core e it.given.group b.core (moved_by e a it.given b it.gives s);
    before = λ s. gave_quiet e clash a it.given b it.gives s;
  }

  quiet_becomes : (o : Option Event) → ((e : Event) → o ≡ Some e → e ≡ event.Run → ⊥) → (a : Around C) (given : Option Given) (b : Around C)
      → Becomes face o a given b → (l : List Step) → Quiet a l b
  quiet_becomes None clash a None b k l = quiet_same a l b k
  quiet_becomes None clash a (Some g) b k l = absurd k
  quiet_becomes (Some e) clash a None b k l = absurd k
  quiet_becomes (Some e) clash a (Some g) b k l = record {
    stands = λ s. laws.stands a.core e g.group b.core (moved_by e a g b k s);
    before = λ s. gave_quiet e (clash e refl) a g b k s;
  }

  -- an accepted connection begins with nothing pending
  accepted_quiet : (a : Around C) (at : ℕ) (t : Links) (number : ℕ) (vs : List ℕ) (from : Addr) → face.next a.core (Some number)
      → OpensNext face a at t → (g : Given) (b : Around C)
      → Gives face (event.Accept number vs from) (record { core = a.core; links = t }) g b → (l : List Step) → Quiet a l b
  accepted_quiet a at t number vs from next opens g b k l =
      let mid : Around C = record { core = a.core; links = t } in
      let e = event.Accept number vs from in record {
        stands = λ s. laws.stands a.core e g.group b.core (moved_by e mid g b k s);
        before = λ s c side link p. (
            let was = gave_quiet e (λ is. cc) mid g b k s c side link p in
            elim (opened_linked a.links t at opens.0 Client opens.2 c side link was.linked) [
              | inl linked ↦ record { linked = linked; pending = was.pending }
              | inr is ↦ absurd (laws.begins a.core number vs from g.group b.core (moved_by e mid g b k s) side
                  (subst (λ n. IsPending face b.core n side) (sym (are_same opens.0 c is) ∙ some_number opens.0 number (laws.one_next a.core _ _ s opens.1 next)) p.pending))
            ]);
      }

  quiet_less : (conns : ℕ) (a : Around C) (call : Call) (given : Option Given) (b : Around C) (k : Calls face conns a call given b)
      → ((c : ℕ) (side : Side) (link : ℕ) → LinkedTo k.links c side link → LinkedTo a.links c side link) → (l : List Step) → Quiet a l b
  quiet_less conns a call given b k less l =
      quiet_links a k.links l b less
      (quiet_becomes k.event (λ e is run. never_run face conns a call e (subst (λ o. MayCall face conns a call o) is k.may) run) _ given b k.becomes l)

  quiet_plain : (conns : ℕ) (a : Around C) (call : Call) (given : Option Given) (b : Around C) (k : Calls face conns a call given b)
      → k.links ≡ a.links → (l : List Step) → Quiet a l b
  quiet_plain conns a call given b k same l = quiet_less conns a call given b k (λ c side link e. subst (λ t. LinkedTo t c side link) same e) l

  accepted_call : (conns : ℕ) (a : Around C) (slot at : ℕ) (from : Addr) (given : Option Given) (b : Around C) (o : Option Event)
      (may : MayCall face conns a (Accept slot (Ok (accepted.One at from))) o) (t : Links) → OpensNext face a at t
      → Becomes face o (record { core = a.core; links = t }) given b → (l : List Step) → Quiet a l b
  accepted_call conns a slot at from None b o may t opens k l = absurd (subst (λ o. Becomes face o (record { core = a.core; links = t }) None b) may.becomes k)
  accepted_call conns a slot at from (Some g) b o may t opens k l =
      accepted_quiet a at t may.number may.name from may.may.0 opens g b
      (subst (λ o. Becomes face o (record { core = a.core; links = t }) (Some g) b) may.becomes k) l

  pub quiet_call : (conns : ℕ) (a : Around C) (call : Call) (given : Option Given) (b : Around C) → Calls face conns a call given b → (l : List Step) → Quiet a l b
  quiet_call conns a (Accept slot (Ok (accepted.One at from))) given b k l = accepted_call conns a slot at from given b k.event k.may k.links k.after k.becomes l
  quiet_call conns a (Accept slot (Ok accepted.NotYet)) given b k l = quiet_plain conns a _ given b k k.after l
  quiet_call conns a (Accept slot (Err why)) given b k l = quiet_plain conns a _ given b k k.after l
  quiet_call conns a (Ask link connect.Refused) given b k l =
      quiet_less conns a _ given b k (closed_linked a.links k.links link k.after.0.conn k.after.0.side k.after.2) l
  quiet_call conns a (Ask link connect.Connected) given b k l = quiet_plain conns a _ given b k k.after l
  quiet_call conns a (Ask link connect.NotYet) given b k l = quiet_plain conns a _ given b k k.after l
  quiet_call conns a (Listen slot at answer) given b k l = quiet_plain conns a _ given b k k.after l
  quiet_call conns a (Wait until listed answer) given b k l = quiet_plain conns a _ given b k k.after l
  quiet_call conns a (Connect to answer) given b k l = quiet_plain conns a _ given b k k.after l
  quiet_call conns a (Read link room answer bytes) given b k l = quiet_plain conns a _ given b k k.after l
  quiet_call conns a (Write link bytes answer) given b k l = quiet_plain conns a _ given b k k.after l
  quiet_call conns a (Finish link) given b k l = quiet_plain conns a _ given b k k.after l
  quiet_call conns a (Close link) given b k l = quiet_plain conns a _ given b k k.after l

  pub quiet_along : (conns : ℕ) → Along face conns (λ call. Unit {0}) Quiet
  quiet_along conns = record {
    none = λ a. quiet_same a [] a refl;
    next = quiet_then;
    calls = λ a call given b any k. quiet_call conns a call given b k (Asks call given ∷ []);
  }
