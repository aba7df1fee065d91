-- A loop over members: what the first of them did, and what all of them did.
use Rattle.std.proofs.Common.{◌≡◌, ℕ, ◌+◌, ◌<◌, ◌≤◌, List, [], ◌∷◌, ◌++◌, take, drop, length, get_or, suc, add-one, drop-cons, length-drop, refl, ap, sym, subst, ◌∙◌, append_assoc, arith}
use Rattle.std.proofs.Math.Seq.{take-suc, take-suc-set}
use Rattle.std.proofs.lemmas.List.{append-nil, drop-set-lt, take_all}
use Rattle.std.proofs.Math.ListN.{set}
use Rattle.px_outside.specs.Net.{Call, Chain}
use Rattle.pool_monitor.specs.Pump.{Each}
use Rattle.pool_monitor.specs.Pass.{Adds, AddsEach, Goes, Steps}

pub chain_append : {S : Type 0} (did : S → Call → S → Type 0) (xs ys : List Call) (a b c : S)
    → Chain did a xs b → Chain did b ys c → Chain did a (xs ++ ys) c
chain_append did [] ys a b c x y = subst (λ t. Chain did t ys c) x y
chain_append did (k ∷ xs) ys a b c x y = (x.0, x.1, chain_append did xs ys x.0 b c x.2 y)

-- one more behind them
pub each_more : {A B : Type 0} (P : A → List B → A → Type 0) (xs : List A) (given : List B) (ys : List A) (x : A) (more : List B) (y : A)
    → Each P xs given ys → P x more y → Each P (xs ++ x ∷ []) (given ++ more) (ys ++ y ∷ [])
each_more P [] given [] x more y none it = (more, [], rw none (sym (append-nil more)), it, refl)
each_more P [] given (z ∷ ys) x more y none it = absurd none
each_more P (w ∷ xs) given [] x more y none it = absurd none
each_more P (w ∷ xs) given (z ∷ ys) x more y e it =
    (e.0, e.1 ++ more, rw e.2 (append_assoc e.0 e.1 more), e.3, each_more P xs e.1 ys x more y e.4 it)

-- what the first of a list did, and the others are as before
pub record Done {A B : Type 0} (P : A → List B → A → Type 0) (xs now : List A) (i : ℕ) (given : List B) : Type 0 where
  pub front : Each P (take i xs) given (take i now)
  pub rest : drop i now ≡ drop i xs

module _ {A B : Type 0} (P : A → List B → A → Type 0) (xs now : List A) where
  pub done_none : now ≡ xs → Done P xs now 0 []
  done_none same = record { front = refl; rest = ap (drop 0) same }

  -- the next one of the list is still as it was
  next_there : (i : ℕ) (d : A) → i < length now → drop i now ≡ drop i xs → (i < length xs) × (get_or xs i d ≡ get_or now i d)
  next_there i d lt rest =
      let there : i < length xs = omega (arith, length-drop i now, length-drop i xs, ap length rest) in
      let mine = drop-cons xs i d there in
      let theirs = drop-cons now i d lt in
      (there, cc)

  rest_there : (i : ℕ) (d : A) (y : A) → i < length now → drop i now ≡ drop i xs → drop (i + 1) (set now i y) ≡ drop (i + 1) xs
  rest_there i d y lt rest =
      let mine = drop-cons xs i d (next_there i d lt rest).0 in
      let theirs = drop-cons now i d lt in
      let same : drop (i + 1) (set now i y) ≡ drop (i + 1) now = drop-set-lt (i + 1) now i y (omega arith) in
      let tails : drop (suc i) now ≡ drop (suc i) xs = cc in
      same ∙ ap (λ k. drop k now) (add-one i) ∙ tails ∙ ap (λ k. drop k xs) (sym (add-one i))

  pub done_more : (i : ℕ) (d : A) (y : A) (given more : List B) → i < length now → Done P xs now i given → P (get_or now i d) more y
      → Done P xs (set now i y) (i + 1) (given ++ more)
  done_more i d y given more lt done it =
      let there = next_there i d lt done.rest in
      let front = each_more P (take i xs) given (take i now) (get_or xs i d) more y done.front (subst (λ x. P x more y) (sym there.1) it) in
      record {
        front = subst (λ zs. Each P zs (given ++ more) (take (i + 1) (set now i y))) (sym (ap (λ k. take k xs) (add-one i) ∙ take-suc xs i d there.0))
            (subst (λ zs. Each P (take i xs ++ get_or xs i d ∷ []) (given ++ more) zs) (sym (ap (λ k. take k (set now i y)) (add-one i) ∙ take-suc-set now i y lt)) front);
        rest = rest_there i d y lt done.rest;
      }

  pub done_all : (i : ℕ) (given : List B) → length now ≤ i → Done P xs now i given → Each P xs given now
  done_all i given long done =
      let long' : length xs ≤ i = omega (arith, length-drop i now, length-drop i xs, ap length done.rest) in
      subst (λ zs. Each P zs given now) (take_all i xs long') (subst (λ zs. Each P (take i xs) given zs) (take_all i now long) done.front)

-- ---- by calls on a net

pub record Going {A S : Type 0} (did : S → Call → S → Type 0) (P : A → List Call → A → Type 0) (old new : S) (xs now : List A) (i : ℕ)
    : Type 0 where
  pub calls : List Call
  pub chain : Chain did old calls new
  pub done : Done P xs now i calls

module _ {A S : Type 0} (did : S → Call → S → Type 0) (P : A → List Call → A → Type 0) (old : S) (xs : List A) where
  pub going_none : Going did P old old xs xs 0
  going_none = record { calls = []; chain = refl; done = done_none P xs xs refl }

  pub going_more : (new new' : S) (now : List A) (i : ℕ) (d : A) (y : A) → i < length now → Going did P old new xs now i
      → Steps did P new new' (get_or now i d) y → Going did P old new' xs (set now i y) (i + 1)
  going_more new new' now i d y lt going it = record {
    calls = going.calls ++ it.calls;
    chain = chain_append did going.calls it.calls old new new' going.chain it.chain;
    done = done_more P xs now i d y going.calls it.calls lt going.done it.step;
  }

  pub going_all : (new : S) (now : List A) (i : ℕ) → length now ≤ i → Going did P old new xs now i → Goes did P old new xs now
  going_all new now i long going = record {
    calls = going.calls;
    chain = going.chain;
    each = done_all P xs now i going.calls long going.done;
  }

-- ---- by marks

pub record Adding {A B : Type 0} (P : A → List B → A → Type 0) (out out' : List B) (xs now : List A) (i : ℕ) : Type 0 where
  pub more : List B
  pub told : out' ≡ out ++ more
  pub done : Done P xs now i more

module _ {A B : Type 0} (P : A → List B → A → Type 0) (out : List B) (xs : List A) where
  pub adding_none : Adding P out out xs xs 0
  adding_none = record { more = []; told = sym (append-nil out); done = done_none P xs xs refl }

  pub adding_more : (out' out'' : List B) (now : List A) (i : ℕ) (d : A) (y : A) → i < length now → Adding P out out' xs now i
      → Adds P out' out'' (get_or now i d) y → Adding P out out'' xs (set now i y) (i + 1)
  adding_more out' out'' now i d y lt adding it = record {
    more = adding.more ++ it.more;
    told = it.told ∙ ap (λ (l : List B). l ++ it.more) adding.told ∙ append_assoc out adding.more it.more;
    done = done_more P xs now i d y adding.more it.more lt adding.done it.step;
  }

  pub adding_all : (out' : List B) (now : List A) (i : ℕ) → length now ≤ i → Adding P out out' xs now i → AddsEach P out out' xs now
  adding_all out' now i long adding = record {
    more = adding.more;
    told = adding.told;
    each = done_all P xs now i adding.more long adding.done;
  }
