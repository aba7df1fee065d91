-- What holds along calls holds along all parts of a turn that make calls.
use Rattle.std.proofs.Common.{◌≡◌, ℕ, zero, suc, List, [], ◌∷◌, ◌++◌, Bool, true, false, Option, inl, inr, sym, subst}
use Rattle.px_bytes.specs.declared.addr.Side.{Side}
use Rattle.px_bytes.specs.declared.addr.Side.TheVariants.{Client, Server}
use Rattle.px_outside.specs.declared.answers.ReadyAt.{ReadyAt}
use Rattle.px_outside.specs.declared.answers.ReadyAt.TheVariants as ready
use Rattle.px_outside.specs.declared.answers.WriteAnswer.{WriteAnswer}
use Rattle.px_outside.specs.Net.{Call, Write}
use Rattle.serve_loop.specs.declared.polled.Polled.{Polled}
use Rattle.serve_loop.specs.declared.polled.Polled.TheVariants as is
use Rattle.serve_loop.specs.Asking.{IsOn, OneCall, AskedOnce}
use Rattle.core_events.specs.Face.{Face}
use Rattle.serve_loop.specs.Often.{NotAsked, GaveOften, TriedLast, Tried, Each}
use Rattle.serve_loop.specs.Turn.{WritesAt, ListenerAt, LinkAt}
use Rattle.serve_loop.specs.Walk.{Around, Given, Step, Asked as Asks, Calls, Then}
use Rattle.serve_loop.specs.Writing.{OneWrite, WroteOnce, Wrote}

-- one holds wherever the other does
abbrev pub Covers : {C : Type 0} → (R Q : Around C → List Step → Around C → Type 0) → Type 0
Covers {C} R Q = (a : Around C) (l : List Step) (b : Around C) → R a l b → Q a l b

-- it holds along nothing, along one part and the next, and along a call of such a kind
pub record Along {C : Type 0} (face : Face C) (conns : ℕ) (K : Call → Type 0) (Q : Around C → List Step → Around C → Type 0) : Type 0 where
  pub none : (a : Around C) → Q a [] a
  pub next : (a : Around C) (l : List Step) (b : Around C) (k : List Step) (c : Around C) → Q a l b → Q b k c → Q a (l ++ k) c
  pub calls : (a : Around C) (call : Call) (given : Option Given) (b : Around C) → K call → Calls face conns a call given b → Q a (Asks call given ∷ []) b

module _ {C : Type 0} (face : Face C) (conns : ℕ) (K : Call → Type 0) (Q : Around C → List Step → Around C → Type 0) (along : Along face conns K Q) where
  pub then_along : (R S : Around C → List Step → Around C → Type 0) → Covers R Q → Covers S Q → Covers (Then R S) Q
  then_along R S r s a l b t =
      subst (λ (x : List Step). Q a x b) (sym t.3) (along.next a t.1 t.0 t.2 b (r a t.1 t.0 t.4) (s t.0 t.2 b t.5))

  pub none_along : (a : Around C) (l : List Step) (b : Around C) → l ≡ [] → b ≡ a → Q a l b
  none_along a l b none same = subst (λ (x : List Step). Q a x b) (sym none) (subst (λ (y : Around C). Q a [] y) (sym same) (along.none a))

  pub not_along : (why : Around C → Type 0) → Covers (NotAsked why) Q
  not_along why a l b it = none_along a l b it.none it.same

  pub often_along : (Once : Polled → Around C → List Step → Around C → Type 0) → ((o : Polled) → Covers (Once o) Q) → (n : ℕ) → Covers (GaveOften Once n) Q
  often_along Once once zero a l b it = none_along a l b it.0 it.1
  often_along Once once (suc n) a l b it = then_along (GaveOften Once n) (Once is.Again) (often_along Once once n) (once is.Again) a l b it

  last_along : (Once : Polled → Around C → List Step → Around C → Type 0) → ((o : Polled) → Covers (Once o) Q) → (often times : ℕ) (stays : Bool)
      → Covers (TriedLast Once often times stays) Q
  last_along Once once often times true a l b (inl it) = once is.Stays a l b it
  last_along Once once often times true a l b (inr it) = not_along _ a l b it
  last_along Once once often times false a l b it = once is.Over a l b it

  pub tried_along : (Once : Polled → Around C → List Step → Around C → Type 0) → ((o : Polled) → Covers (Once o) Q) → (times : ℕ) (stays : Bool)
      → Covers (Tried Once times stays) Q
  tried_along Once once times stays a l b it =
      then_along (GaveOften Once it.often) (TriedLast Once it.often times stays) (often_along Once once it.often)
      (last_along Once once it.often times stays) a l b it.tries

  pub each_along : (At : ℕ → Bool → Around C → List Step → Around C → Type 0) → ((n : ℕ) (s : Bool) → Covers (At n s) Q) → (order stay : List ℕ)
      → Covers (Each At order stay) Q
  each_along At at [] stay a l b it = none_along a l b it.1 it.2
  each_along At at (n ∷ order) stay a l b it = then_along (At n it.0) (Each At order it.1) (at n it.0) (each_along At at order it.1) a l b it.3

  -- ---- a listener or a link is asked

  module _ (on : (at : ReadyAt) (call : Call) → IsOn at call → K call) where
    call_along : (at : ReadyAt) (over : Bool) → Covers (OneCall face conns at over) Q
    call_along at over a l b it =
        subst (λ (x : List Step). Q a x b) (sym it.steps_are) (along.calls a it.call it.given b (on at it.call it.on) it.calls)

    pub asked_along : (at : ReadyAt) (o : Polled) → Covers (AskedOnce face conns at o) Q
    asked_along at is.Again a l b it = call_along at false a l b it
    asked_along at is.Stays a l b it = not_along _ a l b it
    asked_along at is.Over a l b (inl it) = call_along at true a l b it
    asked_along at is.Over a l b (inr it) = not_along _ a l b it

    pub listener_along : (slot : ℕ) (stays : Bool) → Covers (ListenerAt face conns slot stays) Q
    listener_along slot stays = tried_along (AskedOnce face conns (ready.Listener slot)) (asked_along (ready.Listener slot)) 16 stays

    pub link_along : (link : ℕ) (stays : Bool) → Covers (LinkAt face conns link stays) Q
    link_along link stays = tried_along (AskedOnce face conns (ready.Link link)) (asked_along (ready.Link link)) 4 stays

  -- ---- what is pending is written

  module _ (writes : (link : ℕ) (bytes : List ℕ) (answer : WriteAnswer) → K (Write link bytes answer)) where
    write_along : (c : ℕ) (side : Side) (o : Polled) → Covers (OneWrite face conns c side o) Q
    write_along c side o a l b it =
        subst (λ (x : List Step). Q a x b) (sym it.steps_are) (along.calls a _ it.given b (writes it.link it.bytes it.answer) it.calls)

    pub wrote_along : (c : ℕ) (side : Side) (o : Polled) → Covers (WroteOnce face conns c side o) Q
    wrote_along c side is.Again a l b it = write_along c side is.Again a l b it
    wrote_along c side is.Stays a l b it = write_along c side is.Stays a l b it
    wrote_along c side is.Over a l b (inl it) = write_along c side is.Over a l b it
    wrote_along c side is.Over a l b (inr it) = not_along _ a l b it

    pub side_along : (c : ℕ) (side : Side) (stays : Bool) → Covers (Wrote face conns c side stays) Q
    side_along c side stays a l b it = tried_along (WroteOnce face conns c side) (wrote_along c side) _ stays a l b it.tried

    pub both_along : (c : ℕ) (stays : Bool) → Covers (WritesAt face conns c stays) Q
    both_along c stays a l b it =
        then_along (Wrote face conns c Client it.client) (Wrote face conns c Server it.server) (side_along c Client it.client)
        (side_along c Server it.server) a l b it.writes
