-- What a wait lists is open.
use Rattle.std.proofs.Common.{◌≡◌, ℕ, suc, ◌+◌, ◌-◌, ◌<◌, List, [], ◌∷◌, ◌++◌, map, Option, Some, Bool, true, false, refl, ap, sym, ◌∙◌, subst, arith}
use Rattle.std.specs.Prelude.{MatchOption, if◌then◌else◌}
use Rattle.std.specs.List.{slice_get}
use Rattle.std.proofs.lemmas.List.Elements.{All-cons, All-nil}
use Rattle.px_outside.specs.Net.{IsAlive, ListsAlive}
use Rattle.px_outside.specs.MemLink.{LinkInMemory}
use Rattle.px_outside.specs.MemNet.{AliveAmong, alive_from}
use Rattle.px_outside.specs.declared.answers.ReadyAt.{ReadyAt}
use Rattle.px_outside.specs.declared.answers.ReadyAt.TheVariants as ready

alive_at : (links : List LinkInMemory) (k : ℕ) (l : LinkInMemory) → Some l ≡ slice_get links (k + 0) → l.alive ≡ true → AliveAmong links (k + 1)
alive_at links k l is alive =
    let place : k + 1 - 1 ≡ k + 0 = omega arith in
    (omega arith, subst (λ (o : Option LinkInMemory). MatchOption o ⊥ (λ l. l.alive ≡ true)) (is ∙ ap (slice_get links) (sym place)) alive)

one_more : (links : List LinkInMemory) (k : ℕ) (l : LinkInMemory) (b : Bool) (tail : List ReadyAt) → l.alive ≡ b → Some l ≡ slice_get links (k + 0)
    → ListsAlive (AliveAmong links) tail → ListsAlive (AliveAmong links) (if b then ready.Link (k + 1) ∷ tail else tail)
one_more links k l true tail alive is all = All-cons (IsAlive (AliveAmong links)) (ready.Link (k + 1)) tail (alive_at links k l is alive) all
one_more links k l false tail alive is all = all

links_alive : (links : List LinkInMemory) (rest : List LinkInMemory) (k : ℕ) → ((j : ℕ) → slice_get rest j ≡ slice_get links (k + j))
    → ListsAlive (AliveAmong links) (alive_from k rest)
links_alive links [] k same = All-nil (IsAlive (AliveAmong links))
links_alive links (l ∷ rest) k same =
    let next : (j : ℕ) → slice_get rest j ≡ slice_get links (k + 1 + j) = λ j. let place : k + suc j ≡ k + 1 + j = omega arith in same (suc j) ∙ ap (slice_get links) place in
    one_more links k l l.alive (alive_from (k + 1) rest) refl (same 0) (links_alive links rest (k + 1) next)

with_listeners : (links : List LinkInMemory) (slots : List ℕ) (tail : List ReadyAt) → ListsAlive (AliveAmong links) tail
    → ListsAlive (AliveAmong links) (map ready.Listener slots ++ tail)
with_listeners links [] tail all = all
with_listeners links (slot ∷ slots) tail all =
    All-cons (IsAlive (AliveAmong links)) (ready.Listener slot) (map ready.Listener slots ++ tail) tt (with_listeners links slots tail all)

pub lists_alive : (links : List LinkInMemory) (slots : List ℕ) (out : List ReadyAt) → out ≡ map ready.Listener slots ++ alive_from 0 links → ListsAlive (AliveAmong links) out
lists_alive links slots out is =
    let same : (j : ℕ) → slice_get links j ≡ slice_get links (0 + j) = λ j. let place : j ≡ 0 + j = omega arith in ap (slice_get links) place in
    subst (ListsAlive (AliveAmong links)) (sym is) (with_listeners links slots _ (links_alive links links 0 same))
