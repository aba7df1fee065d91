-- Links that are given once, call after call.
use Rattle.std.proofs.Common.{◌≡◌, ◌⊎◌, ℕ, List, [], ◌∷◌, ◌++◌, Bool, true, false, Option, Some, None, refl, ap, sym, ◌∙◌, subst, append_assoc, inl, inr}
use Rattle.std.specs.Prelude.{nat_eq, if◌then◌else◌}
use Rattle.std.specs.List.{AllByRecursion, IsDistinct}
use Rattle.std.proofs.lemmas.Bool.{ne_eqb}
use Rattle.std.proofs.lemmas.Map.Keys.{IsDistinct-cons, IsDistinct-head, IsDistinct-tail}
use Rattle.px_bytes.specs.declared.addr.Side.{Side}
use Rattle.px_outside.specs.Net.{Call, IsNew}
use Rattle.serve_loop.specs.declared.links.Links.{Links}
use Rattle.serve_loop.specs.declared.link_owner.LinkOwner.{LinkOwner}
use Rattle.serve_loop.specs.Links.{owner_in, Opens, Closes}
use Rattle.serve_loop.specs.Fresh.{link_given, links_given, GivesOnce, OwnersStay}

pub given_append : (xs ys : List Call) → links_given (xs ++ ys) ≡ links_given xs ++ links_given ys
given_append [] ys = refl
given_append (x ∷ xs) ys =
    ap (λ (l : List ℕ). link_given x ++ l) (given_append xs ys)
    ∙ sym (append_assoc (link_given x) (links_given xs) (links_given ys))

all_less : (P Q : ℕ → Type 0) → ((l : ℕ) → P l → Q l) → (xs : List ℕ) → AllByRecursion P xs → AllByRecursion Q xs
all_less P Q less [] x = tt
all_less P Q less (l ∷ xs) x = (less l x.0, all_less P Q less xs x.1)

pub all_append : {A : Type 0} (P : A → Type 0) (xs ys : List A) → AllByRecursion P xs → AllByRecursion P ys → AllByRecursion P (xs ++ ys)
all_append P [] ys x y = y
all_append P (l ∷ xs) ys x y = (x.0, all_append P xs ys x.1 y)

-- what is there differs from what isn't
apart : (P : ℕ → Type 0) (l : ℕ) → P l → (k : ℕ) → (P k → ⊥) → nat_eq l k ≡ false
apart P l there k not = ne_eqb l k (λ e. not (subst P e there))

distinct_append : (P : ℕ → Type 0) (xs ys : List ℕ) → AllByRecursion P xs → AllByRecursion (λ l. P l → ⊥) ys
    → IsDistinct nat_eq xs → IsDistinct nat_eq ys → IsDistinct nat_eq (xs ++ ys)
distinct_append P [] ys all none x y = y
distinct_append P (l ∷ xs) ys all none x y =
    IsDistinct-cons nat_eq l (xs ++ ys)
    (all_append (λ k. nat_eq l k ≡ false) xs ys (IsDistinct-head nat_eq l xs x) (all_less (λ k. P k → ⊥) (λ k. nat_eq l k ≡ false) (apart P l all.0) ys none))
    (distinct_append P xs ys all.1 none (IsDistinct-tail nat_eq l xs x) y)

distinct_none : IsDistinct nat_eq []
unfolding IsDistinct
distinct_none = tt

pub once_none : {gave gave' : ℕ → Type 0} → ((l : ℕ) → gave l → gave' l) → GivesOnce gave gave' []
once_none lasts = record { none_before = tt; all_now = tt; once = distinct_none; lasts = lasts }

pub once_one : {gave gave' : ℕ → Type 0} (link : ℕ) → IsNew gave gave' link → ((l : ℕ) → gave l → gave' l)
    → GivesOnce gave gave' (link ∷ [])
once_one link new lasts =
    record { none_before = (new.before, tt); all_now = (new.now, tt); once = IsDistinct-cons nat_eq link [] tt distinct_none; lasts = lasts }

once_append : (gave mid gave' : ℕ → Type 0) (xs ys : List ℕ) → GivesOnce gave mid xs → GivesOnce mid gave' ys
    → GivesOnce gave gave' (xs ++ ys)
once_append gave mid gave' xs ys p q = record {
  none_before = all_append (λ l. gave l → ⊥) xs ys p.none_before
      (all_less (λ l. mid l → ⊥) (λ l. gave l → ⊥) (λ l not there. not (p.lasts l there)) ys q.none_before);
  all_now = all_append gave' xs ys (all_less mid gave' q.lasts xs p.all_now) q.all_now;
  once = distinct_append mid xs ys p.all_now q.none_before p.once q.once;
  lasts = λ l there. q.lasts l (p.lasts l there);
}

-- calls after calls
pub once_then : (gave mid gave' : ℕ → Type 0) (xs ys : List Call) → GivesOnce gave mid (links_given xs)
    → GivesOnce mid gave' (links_given ys) → GivesOnce gave gave' (links_given (xs ++ ys))
once_then gave mid gave' xs ys p q =
    subst (GivesOnce gave gave') (sym (given_append xs ys)) (once_append gave mid gave' (links_given xs) (links_given ys) p q)

pub owners_same : (gave : ℕ → Type 0) (a : Links) → OwnersStay gave a a
owners_same gave a = record { stays = λ l there. inl refl }

stays_then : (a b c : Option LinkOwner) → (b ≡ a) ⊎ (b ≡ None) → (c ≡ b) ⊎ (c ≡ None) → (c ≡ a) ⊎ (c ≡ None)
stays_then a b c p (inr none) = inr none
stays_then a b c (inl one) (inl two) = inl (two ∙ one)
stays_then a b c (inr none) (inl two) = inr (two ∙ none)

pub owners_then : (gave mid : ℕ → Type 0) (a b c : Links) → ((l : ℕ) → gave l → mid l) → OwnersStay gave a b → OwnersStay mid b c
    → OwnersStay gave a c
owners_then gave mid a b c lasts p q = record {
  stays = λ l there. stays_then (owner_in a l) (owner_in b l) (owner_in c l) (p.stays l there) (q.stays l (lasts l there));
}

-- a link that was given before isn't the new one
old_stays : (gave : ℕ → Type 0) (a b : Links) (link c : ℕ) (s : Side) → (gave link → ⊥) → Opens a b link c s → (l : ℕ) → gave l
    → owner_in b l ≡ owner_in a l
old_stays gave a b link c s new opens l there =
    let other : nat_eq link l ≡ false = ne_eqb link l (λ e. new (subst gave (sym e) there)) in
    opens.owner l ∙ ap (λ (t : Bool). if t then Some (record { conn = c; side = s }) else owner_in a l) other

pub owners_open : (gave : ℕ → Type 0) (a b : Links) (link c : ℕ) (s : Side) → (gave link → ⊥) → Opens a b link c s → OwnersStay gave a b
owners_open gave a b link c s new opens = record { stays = λ l there. inl (old_stays gave a b link c s new opens l there) }

closed_stays : (link l : ℕ) (o : Option LinkOwner) (b : Bool) → nat_eq link l ≡ b → (n : Option LinkOwner) → n ≡ (if nat_eq link l then None else o)
    → (n ≡ o) ⊎ (n ≡ None)
closed_stays link l o true is n e = inr (e ∙ ap (λ (t : Bool). if t then None else o) is)
closed_stays link l o false is n e = inl (e ∙ ap (λ (t : Bool). if t then None else o) is)

pub owners_close : (gave : ℕ → Type 0) (a b : Links) (link c : ℕ) (s : Side) → Closes a b link c s → OwnersStay gave a b
owners_close gave a b link c s closes = record {
  stays = λ l there. closed_stays link l (owner_in a l) (nat_eq link l) refl (owner_in b l) (closes.owner l);
}
