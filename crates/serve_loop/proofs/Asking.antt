-- What is pending behind a turn was asked for in its writes.
use Rattle.std.proofs.Common.{◌≡◌, ◌⊎◌, ℕ, zero, suc, ◌+◌, ◌≤◌, List, [], ◌∷◌, ◌++◌, length, Bool, true, false, ◌||◌, Option, Some, None, nat_eq}
use Rattle.std.proofs.Common.{if◌then◌else◌, inl, inr, refl, sym, ap, subst, ◌∙◌, arith}
use Rattle.std.specs.List.{AllByRecursion, list_any}
use Rattle.std.proofs.lemmas.List.Folds.{list_any-append}
use Rattle.indexmap.specs.IndexSet.{insert_key}
use Rattle.px_bytes.specs.declared.addr.Side.{Side}
use Rattle.px_bytes.specs.declared.addr.Side.TheVariants.{Client, Server}
use Rattle.px_outside.specs.declared.answers.WriteAnswer.{WriteAnswer}
use Rattle.px_outside.specs.declared.answers.WriteAnswer.TheVariants as write
use Rattle.px_outside.specs.Net.{Call, Write, WritesWithin}
use Rattle.core_events.specs.declared.event.Event.{Event}
use Rattle.core_events.specs.declared.event.Event.TheVariants as event
use Rattle.core_events.specs.Face.{Face, took_event, reset_event}
use Rattle.serve_loop.specs.declared.polled.Polled.{Polled}
use Rattle.serve_loop.specs.declared.polled.Polled.TheVariants as is
use Rattle.serve_loop.specs.Added.{added}
use Rattle.serve_loop.specs.Events.{write_event}
use Rattle.serve_loop.specs.Links.{link_in}
use Rattle.serve_loop.specs.Often.{GaveOften, TriedLast, Each, staying}
use Rattle.serve_loop.specs.Pending.{IsPending, IsWrite, Moved, PendingOn, SendsInRuns, takes_no_more}
use Rattle.serve_loop.specs.Running.{OnePair, GavePairs, RanLast, Ran, noted}
use Rattle.serve_loop.specs.Turn.{WritesAt, either}
use Rattle.serve_loop.specs.Walk.{Around, Given, Step, Gives, Asked as Asks, Becomes}
use Rattle.serve_loop.specs.Writing.{OneWrite, WroteOnce, Wrote, asked_of}
use Rattle.serve_loop.proofs.Along.{Along, Covers, both_along, each_along, often_along, side_along, wrote_along}
use Rattle.serve_loop.proofs.Fresh.{all_append}
use Rattle.serve_loop.proofs.Quiet.{Quiet, are_same, behind, either_left, either_right, gave_before, quiet_along, quiet_own, same_number}

-- ---- numbers

abbrev IsAmong : ℕ → List ℕ → Type 0
IsAmong c numbers = list_any (nat_eq c) numbers ≡ true

-- a number that is added is among them, and those that were stay
added_by : (b : Bool) (numbers : List ℕ) (d : ℕ) → list_any (nat_eq d) numbers ≡ b → IsAmong d (if b then numbers else numbers ++ d ∷ [])
added_by true numbers d e = e
added_by false numbers d e = behind d numbers (d ∷ []) (either_left (nat_eq d d) false (same_number d))

one_added : (numbers : List ℕ) (d : ℕ) → IsAmong d (insert_key nat_eq numbers d)
one_added numbers d = added_by (list_any (nat_eq d) numbers) numbers d refl

kept_by : (b : Bool) (numbers : List ℕ) (d c : ℕ) → IsAmong c numbers → IsAmong c (if b then numbers else numbers ++ d ∷ [])
kept_by true numbers d c e = e
kept_by false numbers d c e = list_any-append (nat_eq c) numbers (d ∷ []) ∙ either_left (list_any (nat_eq c) numbers) _ e

one_kept : (numbers : List ℕ) (d c : ℕ) → IsAmong c numbers → IsAmong c (insert_key nat_eq numbers d)
one_kept numbers d c e = kept_by (list_any (nat_eq d) numbers) numbers d c e

all_kept : (more numbers : List ℕ) (c : ℕ) → IsAmong c numbers → IsAmong c (added numbers more)
all_kept [] numbers c e = e
all_kept (n ∷ more) numbers c e = all_kept more (insert_key nat_eq numbers n) c (one_kept numbers n c e)

front_or : (b r : Bool) → (b || r) ≡ true → (b ≡ true) ⊎ (r ≡ true)
front_or true r e = inl refl
front_or false r e = inr e

pub all_added : (more numbers : List ℕ) (c : ℕ) → IsAmong c more → IsAmong c (added numbers more)
all_added [] numbers c e = cc
all_added (n ∷ more) numbers c e = elim (front_or (nat_eq c n) (list_any (nat_eq c) more) e) [
  | inl is ↦ all_kept more (insert_key nat_eq numbers n) c (subst (λ k. IsAmong k (insert_key nat_eq numbers n)) (sym (are_same c n is)) (one_added numbers n))
  | inr later ↦ all_added more (insert_key nat_eq numbers n) c later
]

-- where one of either part does, one of both does
any_front : {A : Type 0} (p : A → Bool) (xs ys all : List A) → all ≡ xs ++ ys → list_any p xs ≡ true → list_any p all ≡ true
any_front p xs ys all is e = ap (list_any p) is ∙ list_any-append p xs ys ∙ either_left (list_any p xs) (list_any p ys) e

any_behind : {A : Type 0} (p : A → Bool) (xs ys all : List A) → all ≡ xs ++ ys → list_any p ys ≡ true → list_any p all ≡ true
any_behind p xs ys all is e = ap (list_any p) is ∙ list_any-append p xs ys ∙ either_right (list_any p xs) (list_any p ys) e

either_true : (x : Bool) → either x true ≡ true
either_true true = refl
either_true false = refl

front_stays : (c n : ℕ) (stays : Bool) (rest : List ℕ) → nat_eq c n ≡ true → stays ≡ true → IsAmong c (staying stays n ++ rest)
front_stays c n true rest is e = either_left (nat_eq c n) (list_any (nat_eq c) rest) is
front_stays c n false rest is e = cc

-- ---- writes

-- all writes of a part
Written : {C : Type 0} → Around C → List Step → Around C → Type 0
Written a steps b = AllByRecursion IsWrite steps

IsWriteCall : Call → Type 0
IsWriteCall call = (given : Option Given) → IsWrite (Asks call given)

written_along : {C : Type 0} (face : Face C) (conns : ℕ) → Along face conns IsWriteCall Written
unfolding Written IsWriteCall
written_along face conns = record {
  none = λ a. tt;
  next = λ a l b k c one two. all_append IsWrite l k one two;
  calls = λ a call given b write k. (write given, tt);
}

pub writes_alone : {C : Type 0} (face : Face C) (conns : ℕ) (order stay : List ℕ) (a : Around C) (l : List Step) (b : Around C)
    → Each (WritesAt face conns) order stay a l b → AllByRecursion IsWrite l
unfolding Written IsWriteCall
writes_alone face conns =
    each_along face conns IsWriteCall Written (written_along face conns) (WritesAt face conns)
    (both_along face conns IsWriteCall Written (written_along face conns) (λ link bytes answer given. tt))

module _ {C : Type 0} (face : Face C) (conns : ℕ) (laws : SendsInRuns face) where
  abbrev Stands : Around C → Type 0
  Stands a = face.stands a.core

  along : Along face conns (λ call. Unit {0}) (Quiet face laws)
  along = quiet_along face laws conns

  once_quiet : (c : ℕ) (side : Side) (o : Polled) → Covers (WroteOnce face conns c side o) (Quiet face laws)
  once_quiet = wrote_along face conns (λ call. Unit {0}) (Quiet face laws) along (λ link bytes answer. tt)

  -- the event that a write became
  event_given : (o : Option Event) (e : Event) → o ≡ Some e → (a : Around C) (given : Option Given) (b : Around C) → Becomes face o a given b
      → (g : Given) × Gives face e a g b
  event_given o e is a given b k = by given (subst (λ x. Becomes face x a given b) is k)
    where
      by : (given : Option Given) → Becomes face (Some e) a given b → (g : Given) × Gives face e a g b
      by None k = absurd k
      by (Some g) k = (g, k)

  -- ---- one side

  module _ (c : ℕ) (side : Side) where
    -- what a write took isn't pending any more
    took_less : (a : Around C) (l : List Step) (b : Around C) (w : OneWrite face conns c side is.Again a l b) → Stands a → (y : List ℕ)
        → face.queue b.core c side y → suc (length y) ≤ length w.bytes
    took_less a l b w s y q = by w.answer w.asked_is w.within w.becomes
      where
        by : (answer : WriteAnswer) → asked_of answer ≡ is.Again → WritesWithin (length w.bytes) answer → w.calls.event ≡ write_event c side answer
            → suc (length y) ≤ length w.bytes
        by (write.Took n) e within becomes =
            let it = event_given w.calls.event (took_event side c n) becomes (record { core = a.core; links = w.calls.links }) w.given b w.calls.becomes in
            let moved : Moved face a.core (took_event side c n) it.0.group b.core = record { stands = s; taken = it.1.taken; moved = it.1.moved } in
            let left = laws.takes a.core c side n it.0.group b.core moved w.bytes y w.queued q in
            omega (arith, left, within.0, within.1)
        by write.NotYet e within becomes = cc
        by write.Reset e within becomes = cc

    -- after so many writes so much is left of what was pending
    often_left : (n : ℕ) (a : Around C) (l : List Step) (b : Around C) → GaveOften (WroteOnce face conns c side) n a l b → Stands a → (x : List ℕ)
        → face.queue a.core c side x → (y : List ℕ) → face.queue b.core c side y → length y + n ≤ length x
    often_left zero a l b it s x qx y qy =
        let same = ap length (laws.one_queue a.core c side y x s (subst (λ (z : Around C). face.queue z.core c side y) it.1 qy) qx) in
        omega (arith, same)
    often_left (suc n) a l b it s x qx y qy =
        let w = it.5 in
        let stands = (often_along face conns (λ call. Unit {0}) (Quiet face laws) along (WroteOnce face conns c side) (once_quiet c side) n a it.1 it.0 it.4).stands s in
        let less = took_less it.0 it.2 b w stands y qy in
        let before = often_left n a it.1 it.0 it.4 s x qx w.bytes w.queued in
        omega (arith, less, before)

    linked_same : (o : Option ℕ) (link other : ℕ) → o ≡ Some link → o ≡ Some other → other ≡ link
    linked_same o link other e f = cc

    asks_no_more : (link : ℕ) (bytes : List ℕ) (given : Option Given) (l : List Step) → l ≡ Asks (Write link bytes write.NotYet) given ∷ []
        → list_any (takes_no_more link) l ≡ true
    asks_no_more link bytes given l is = subst (λ (x : List Step). list_any (takes_no_more link) x ≡ true) (sym is) (either_left (nat_eq link link) false (same_number link))

    -- the link of a side to which something is pending still took no more
    no_more : (a : Around C) (l : List Step) (b : Around C) (w : OneWrite face conns c side is.Stays a l b) → Stands a → (link : ℕ)
        → PendingOn face b c side link → list_any (takes_no_more link) l ≡ true
    no_more a l b w s link p = by w.answer w.asked_is w.steps_are
      where
        same : w.link ≡ link
        same = linked_same (link_in a.links c side) link w.link ((once_quiet c side is.Stays a l b w).before s c side link p).linked w.linked

        by : (answer : WriteAnswer) → asked_of answer ≡ is.Stays → l ≡ Asks (Write w.link w.bytes answer) w.given ∷ []
            → list_any (takes_no_more link) l ≡ true
        by (write.Took n) e steps = cc
        by write.NotYet e steps = asks_no_more link w.bytes w.given l (subst (λ k. l ≡ Asks (Write k w.bytes write.NotYet) w.given ∷ []) same steps)
        by write.Reset e steps = cc

    -- nothing is pending behind a reset
    no_reset : (a : Around C) (l : List Step) (b : Around C) (w : OneWrite face conns c side is.Over a l b) → Stands a → IsPending face b.core c side → ⊥
    no_reset a l b w s p = by w.answer w.asked_is w.becomes
      where
        by : (answer : WriteAnswer) → asked_of answer ≡ is.Over → w.calls.event ≡ write_event c side answer → ⊥
        by (write.Took n) e becomes = cc
        by write.NotYet e becomes = cc
        by write.Reset e becomes =
            let it = event_given w.calls.event (reset_event side c) becomes (record { core = a.core; links = w.calls.links }) w.given b w.calls.becomes in
            laws.resets a.core c side it.0.group b.core (record { stands = s; taken = it.1.taken; moved = it.1.moved }) p

    last_pending : (often : ℕ) (x : List ℕ) (stays : Bool) (a : Around C) (l : List Step) (b : Around C)
        → TriedLast (WroteOnce face conns c side) often (length x + 1) stays a l b → Stands a
        → ((y : List ℕ) → face.queue a.core c side y → length y + often ≤ length x) → (link : ℕ) → PendingOn face b c side link
        → (stays ≡ true) × (list_any (takes_no_more link) l ≡ true)
    last_pending often x true a l b (inl w) s left link p = (refl, no_more a l b w s link p)
    last_pending often x true a l b (inr it) s left link p =
        let here = subst (λ (z : Around C). PendingOn face z c side link) it.same p in
        let more = left (here.pending.byte ∷ here.pending.more) here.pending.queued in
        let all = it.because in
        let clash : ⊥ = omega (arith, more, all) in absurd clash
    last_pending often x false a l b (inl w) s left link p = absurd (no_reset a l b w s p.pending)
    last_pending often x false a l b (inr it) s left link p =
        let here = subst (λ (z : Around C). PendingOn face z c side link) it.same p in
        let linked = here.linked in
        let clash : ⊥ = elim it.because [
          | inl none ↦ cc
          | inr nothing ↦ (let e = laws.one_queue a.core c side _ _ s nothing here.pending.queued in cc)
        ] in absurd clash

    pub side_pending : (stays : Bool) (a : Around C) (l : List Step) (b : Around C) → Wrote face conns c side stays a l b → Stands a → (link : ℕ)
        → PendingOn face b c side link → (stays ≡ true) × (list_any (takes_no_more link) l ≡ true)
    side_pending stays a l b w s link p =
        let t = w.tried.tries in
        let once = often_along face conns (λ call. Unit {0}) (Quiet face laws) along (WroteOnce face conns c side) (once_quiet c side) w.tried.often a t.1 t.0 t.4 in
        let last = last_pending w.tried.often w.pending stays t.0 t.2 b t.5 (once.stands s)
        (often_left w.tried.often a t.1 t.0 t.4 s w.pending w.queued) link p in
        (last.0, any_behind (takes_no_more link) t.1 t.2 l t.3 last.1)

  -- ---- both sides, and all connections

  both_pending : (c : ℕ) (stays : Bool) (a : Around C) (l : List Step) (b : Around C) → WritesAt face conns c stays a l b → Stands a → (side : Side) (link : ℕ)
      → PendingOn face b c side link → (stays ≡ true) × (list_any (takes_no_more link) l ≡ true)
  both_pending c stays a l b w s Client link p =
      let t = w.writes in
      let later = side_along face conns (λ call. Unit {0}) (Quiet face laws) along (λ link bytes answer. tt) c Server w.server t.0 t.2 b t.5 in
      let first = side_along face conns (λ call. Unit {0}) (Quiet face laws) along (λ link bytes answer. tt) c Client w.client a t.1 t.0 t.4 in
      let it = side_pending c Client w.client a t.1 t.0 t.4 s link (later.before (first.stands s) c Client link p) in
      (w.stays_is ∙ ap (λ x. either x w.server) it.0, any_front (takes_no_more link) t.1 t.2 l t.3 it.1)
  both_pending c stays a l b w s Server link p =
      let t = w.writes in
      let first = side_along face conns (λ call. Unit {0}) (Quiet face laws) along (λ link bytes answer. tt) c Client w.client a t.1 t.0 t.4 in
      let it = side_pending c Server w.server t.0 t.2 b t.5 (first.stands s) link p in
      (w.stays_is ∙ ap (either w.client) it.0 ∙ either_true w.client, any_behind (takes_no_more link) t.1 t.2 l t.3 it.1)

  at_quiet : (n : ℕ) (stays : Bool) → Covers (WritesAt face conns n stays) (Quiet face laws)
  at_quiet = both_along face conns (λ call. Unit {0}) (Quiet face laws) along (λ link bytes answer. tt)

  pub each_quiet : (order stay : List ℕ) → Covers (Each (WritesAt face conns) order stay) (Quiet face laws)
  each_quiet = each_along face conns (λ call. Unit {0}) (Quiet face laws) along (WritesAt face conns) at_quiet

  pub each_pending : (order stay : List ℕ) (a : Around C) (l : List Step) (b : Around C) → Each (WritesAt face conns) order stay a l b → Stands a
      → (c : ℕ) (side : Side) (link : ℕ) → PendingOn face b c side link → IsAmong c order → IsAmong c stay × (list_any (takes_no_more link) l ≡ true)
  each_pending [] stay a l b it s c side link p among = cc
  each_pending (n ∷ order) stay a l b it s c side link p among =
      let t = it.3 in
      let mid = (at_quiet n it.0 a t.1 t.0 t.4).stands s in
      elim (front_or (nat_eq c n) (list_any (nat_eq c) order) among) [
        | inl is ↦ (
            let same = are_same c n is in
            let here = subst (λ k. PendingOn face t.0 k side link) same ((each_quiet order it.1 t.0 t.2 b t.5).before mid c side link p) in
            let one = both_pending n it.0 a t.1 t.0 t.4 s side link here in
            (ap (list_any (nat_eq c)) it.2 ∙ front_stays c n it.0 it.1 is one.0, any_front (takes_no_more link) t.1 t.2 l t.3 one.1)
            )
        | inr later ↦ (
            let rest = each_pending order it.1 t.0 t.2 b t.5 mid c side link p later in
            (ap (list_any (nat_eq c)) it.2 ∙ behind c (staying it.0 n) it.1 rest.0, any_behind (takes_no_more link) t.1 t.2 l t.3 rest.1)
            )
      ]

  -- ---- pairs

  -- what pairs leave pending: it was before, or its connection ran and is noted
  pub record Noted (before after : List ℕ) (a b : Around C) : Type 0 where
    pub stands : Stands a → Stands b
    pub kept : (c : ℕ) → IsAmong c before → IsAmong c after
    pub pending : Stands a → (c : ℕ) (side : Side) (link : ℕ) → PendingOn face b c side link → IsAmong c after ⊎ PendingOn face a c side link

  kept_noted : (ready : Option ℕ) (before : List ℕ) (c : ℕ) → IsAmong c before → IsAmong c (noted ready before)
  kept_noted None before c e = e
  kept_noted (Some d) before c e = one_kept before d c e

  ready_noted : (ready : Option ℕ) (before : List ℕ) (c : ℕ) → ready ≡ Some c → IsAmong c (noted ready before)
  ready_noted ready before c is = subst (λ o. IsAmong c (noted o before)) (sym is) (one_added before c)

  pair_noted : (before after : List ℕ) (a : Around C) (l : List Step) (b : Around C) → OnePair face before after a l b → Noted before after a b
  pair_noted before after a l b it =
      let t = it.events in
      let run = t.4 in
      let turn = quiet_own face laws event.Turn (λ e. cc) t.0 t.2 b t.5 in
      let mid : Stands a → Stands t.0 = λ s. laws.stands a.core event.Run run.given.group t.0.core
      (record { stands = s; taken = run.gives.taken; moved = run.gives.moved }) in
      record {
        stands = λ s. turn.stands (mid s);
        kept = λ c e. subst (IsAmong c) (sym it.noted_is) (kept_noted it.ready before c e);
        pending = λ s c side link p. elim (gave_before face laws event.Run a run.given t.0 run.gives s c side link (turn.before (mid s) c side link p)) [
          | inl ran ↦ inl (subst (IsAmong c) (sym it.noted_is) (ready_noted it.ready before c (laws.one_ready a.core _ _ s it.is_ready ran.ready)))
          | inr was ↦ inr was
        ];
      }

  same_noted : (before after : List ℕ) (a b : Around C) → after ≡ before → b ≡ a → Noted before after a b
  same_noted before after a b same here = record {
    stands = λ s. subst Stands (sym here) s;
    kept = λ c e. subst (IsAmong c) (sym same) e;
    pending = λ s c side link p. inr (subst (λ z. PendingOn face z c side link) here p);
  }

  then_noted : (before mid after : List ℕ) (a z b : Around C) → Noted before mid a z → Noted mid after z b → Noted before after a b
  then_noted before mid after a z b one two = record {
    stands = λ s. two.stands (one.stands s);
    kept = λ c e. two.kept c (one.kept c e);
    pending = λ s c side link p. elim (two.pending (one.stands s) c side link p) [
      | inl now ↦ inl now
      | inr was ↦ elim (one.pending s c side link was) [ inl early ↦ inl (two.kept c early) | inr first ↦ inr first ]
    ];
  }

  pairs_noted : (n : ℕ) (before after : List ℕ) (a : Around C) (l : List Step) (b : Around C) → GavePairs face n before after a l b → Noted before after a b
  pairs_noted zero before after a l b it = same_noted before after a b it.0 it.1.1
  pairs_noted (suc n) before after a l b it =
      let t = it.1 in
      then_noted before it.0 after a t.0 b (pairs_noted n before it.0 a t.1 t.0 t.4) (pair_noted it.0 after t.0 t.2 b t.5)

  last_noted : (often times : ℕ) (ready : Bool) (before after : List ℕ) (a : Around C) (l : List Step) (b : Around C)
      → RanLast face often times ready before after a l b → Noted before after a b
  last_noted often times true before after a l b it = same_noted before after a b it.0 it.1.same
  last_noted often times false before after a l b it = same_noted before after a b it.0 it.1.same

  pub ran_noted : (times : ℕ) (ready : Bool) (before after : List ℕ) (a : Around C) (l : List Step) (b : Around C)
      → Ran face times ready before after a l b → Noted before after a b
  ran_noted times ready before after a l b it =
      let t = it.pairs in
      then_noted before it.mid after a t.0 b (pairs_noted it.often before it.mid a t.1 t.0 t.4) (last_noted it.often times ready it.mid after t.0 t.2 b t.5)
