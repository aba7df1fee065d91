-- Turns after turns.
use Rattle.std.proofs.Common.{ℕ, ◌+◌, ◌++◌, Option, refl, sym, subst, add-one}
use Rattle.px_bytes.specs.declared.addr.Addr.{Addr}
use Rattle.serve_loop.proofs.Chains.{chain_append}
use Rattle.px_outside.specs.Net.{Call, Chain}
use Rattle.core_events.specs.Face.{Face}
use Rattle.serve_loop.specs.Server.{Running, OneTurn, Turns, Behind, ListensAll, ListensTo, listen_calls}

pub turns_next : {C S T : Type 0} (face : Face C) (did : S → Call → S → Type 0) (gave : S → ℕ → Type 0) (ticked : T → ℕ → T → Type 0)
    (n : ℕ) (old mid new : Running C S T) → Turns face did gave ticked n old mid → Behind face n mid.server.serving
    → (now : ℕ) × ticked mid.clock now new.clock × OneTurn face did gave now mid.server new.server mid.net new.net mid.written new.written
    → Turns face did gave ticked (n + 1) old new
turns_next face did gave ticked n old mid new turns behind one =
    subst (λ k. Turns face did gave ticked k old new) (sym (add-one n)) (mid, turns, behind, one)

pub listens_next : {C S : Type 0} (face : Face C) (did : S → Call → S → Type 0) (core : C) (n : ℕ) (a b c : S)
    → ListensAll face did core n a b → (at : Option Addr) × face.listens core n at × Chain did b (listen_calls n at) c
    → ListensAll face did core (n + 1) a c
listens_next face did core n a b c p q = record {
  calls = p.calls ++ listen_calls n q.0;
  listens = subst (λ k. ListensTo face core k (p.calls ++ listen_calls n q.0)) (sym (add-one n)) (p.calls, q.0, p.listens, q.1, refl);
  chain = chain_append did p.calls (listen_calls n q.0) a b c p.chain q.2;
}
