-- Parts after parts.
use Rattle.std.proofs.Common.{◌≡◌, ℕ, List, [], ◌∷◌, ◌++◌, Bool, true, false, refl, ap, sym, ◌∙◌, subst, append_assoc}
use Rattle.std.proofs.lemmas.List.{append-nil}
use Rattle.px_outside.specs.Net.{Call, Chain}
use Rattle.serve_loop.proofs.Chains.{chain_append}
use Rattle.serve_loop.proofs.Fresh.{once_none, once_then, owners_same, owners_then}
use Rattle.serve_loop.specs.Fresh.{GivesOnce, links_given}
use Rattle.serve_loop.specs.declared.journal.Journal.{Journal}
use Rattle.serve_loop.specs.declared.serving.Serving.{Serving}
use Rattle.serve_loop.specs.Events.{kept, Tells}
use Rattle.core_events.specs.Face.{Face}
use Rattle.serve_loop.specs.Walk.{Around, Step, calls_of, calls_in, text_of, text_in, Walks, Then}
use Rattle.serve_loop.specs.Part.{stand, Ready, Made, Part}

pub calls_append : (xs ys : List Step) → calls_in (xs ++ ys) ≡ calls_in xs ++ calls_in ys
calls_append [] ys = refl
calls_append (x ∷ xs) ys =
    ap (λ cs. calls_of x ++ cs) (calls_append xs ys)
    ∙ sym (append_assoc (calls_of x) (calls_in xs) (calls_in ys))

pub text_append : (xs ys : List Step) → text_in (xs ++ ys) ≡ text_in xs ++ text_in ys
text_append [] ys = refl
text_append (x ∷ xs) ys =
    ap (λ t. text_of x ++ t) (text_append xs ys)
    ∙ sym (append_assoc (text_of x) (text_in xs) (text_in ys))

pub walks_append : {C : Type 0} (face : Face C) (conns : ℕ) (xs ys : List Step) (a b c : Around C)
    → Walks face conns a xs b → Walks face conns b ys c → Walks face conns a (xs ++ ys) c
walks_append face conns [] ys a b c x y = subst (λ t. Walks face conns t ys c) x y
walks_append face conns (k ∷ xs) ys a b c x y =
    (x.0, x.1, walks_append face conns xs ys x.0 b c x.2 y)

kept_then : (b : Bool) (t x y : List ℕ) → kept b (kept b t x) y ≡ kept b t (x ++ y)
kept_then true t x y = append_assoc t x y
kept_then false t x y = refl

kept_nothing : (b : Bool) (t : List ℕ) → t ≡ kept b t []
kept_nothing true t = sym (append-nil t)
kept_nothing false t = refl

pub tells_then : {a b c : Journal} {x y : List ℕ} → Tells a b x → Tells b c y → Tells a c (x ++ y)
tells_then {a} {b} {c} {x} {y} p q = record {
  text = q.text ∙ ap (λ r. kept r b.text y) p.same ∙ ap (λ t. kept a.recording t y) p.text
      ∙ kept_then a.recording a.text x y;
  same = q.same ∙ p.same;
}

pub tells_nothing : (a : Journal) → Tells a a []
tells_nothing a = record { text = kept_nothing a.recording a.text; same = refl }

-- steps after steps
pub once_steps : (gave mid gave' : ℕ → Type 0) (xs ys : List Step) → GivesOnce gave mid (links_given (calls_in xs))
    → GivesOnce mid gave' (links_given (calls_in ys)) → GivesOnce gave gave' (links_given (calls_in (xs ++ ys)))
once_steps gave mid gave' xs ys p q =
    subst (λ (l : List Call). GivesOnce gave gave' (links_given l)) (sym (calls_append xs ys))
    (once_then gave mid gave' (calls_in xs) (calls_in ys) p q)

unfoldable pub made_nothing : {C S : Type 0} {face : Face C} {did : S → Call → S → Type 0} {gave : S → ℕ → Type 0}
    (R : Around C → List Step → Around C → Type 0) (a : Around C) (n : S) → Ready face (gave n) a → R a [] a → Made face did gave R a a n n
made_nothing R a n ready none =
    record { steps = []; chain = refl; leads = none; ready = ready; once = once_none (λ l there. there); owners = owners_same _ a.links }

unfoldable pub made_then : {C S : Type 0} {face : Face C} {did : S → Call → S → Type 0} {gave : S → ℕ → Type 0}
    {R Q W : Around C → List Step → Around C → Type 0} {a b c : Around C} {n m k : S} (one : Made face did gave R a b n m)
    (two : Made face did gave Q b c m k) → W a (one.steps ++ two.steps) c → Made face did gave W a c n k
made_then {C} {S} {face} {did} {gave} {R} {Q} {W} {a} {b} {c} {n} {m} {k} one two leads = record {
  steps = one.steps ++ two.steps;
  chain = subst (λ cs. Chain did n cs k) (sym (calls_append one.steps two.steps))
      (chain_append did (calls_in one.steps) (calls_in two.steps) n m k one.chain two.chain);
  leads = leads;
  ready = two.ready;
  once = once_steps (gave n) (gave m) (gave k) one.steps two.steps one.once two.once;
  owners = owners_then (gave n) (gave m) a.links b.links c.links one.once.lasts one.owners two.owners;
}

-- one part after another, where the second is said by how many connections may be accepted
pub part_next : {C S : Type 0} {face : Face C} {did : S → Call → S → Type 0} {gave : S → ℕ → Type 0}
    {R : Around C → List Step → Around C → Type 0} (Q : ℕ → Around C → List Step → Around C → Type 0) {x y z : Serving C} {n m k : S}
    → Part face did gave R x y n m → Part face did gave (Q y.conns) y z m k → Part face did gave (Then R (Q x.conns)) x z n k
unfolding made_then
part_next Q {x} {y} {z} p q = record {
  from = λ s.
      let one = p.from s in
      let two = q.from one.made.ready in
      let xs = one.made.steps in
      let ys = two.made.steps in record {
        made = made_then one.made two.made
            (stand y, xs, ys, refl, one.made.leads, subst (λ t. Q t (stand y) ys (stand z)) one.conns two.made.leads);
        told = subst (λ t. Tells x.journal z.journal t) (sym (text_append xs ys)) (tells_then one.told two.told);
        conns = two.conns ∙ one.conns;
      };
}

pub part_then : {C S : Type 0} {face : Face C} {did : S → Call → S → Type 0} {gave : S → ℕ → Type 0}
    {R Q : Around C → List Step → Around C → Type 0} {x y z : Serving C} {n m k : S}
    → Part face did gave R x y n m → Part face did gave Q y z m k → Part face did gave (Then R Q) x z n k
part_then {Q = Q} p q = part_next (λ (conns : ℕ). Q) p q

-- what says more says less, from there to here
pub part_at : {C S : Type 0} {face : Face C} {did : S → Call → S → Type 0} {gave : S → ℕ → Type 0}
    {R Q : Around C → List Step → Around C → Type 0} {x y : Serving C} {n m : S}
    → ((steps : List Step) → R (stand x) steps (stand y) → Q (stand x) steps (stand y))
    → Part face did gave R x y n m → Part face did gave Q x y n m
part_at less p = record {
  from = λ s.
      let it = p.from s in
      let made = it.made in record {
        made = record {
          steps = made.steps;
          chain = made.chain;
          leads = less made.steps made.leads;
          ready = made.ready;
          once = made.once;
          owners = made.owners;
        };
        told = it.told;
        conns = it.conns;
      };
}

-- anywhere
pub part_less : {C S : Type 0} {face : Face C} {did : S → Call → S → Type 0} {gave : S → ℕ → Type 0}
    {R Q : Around C → List Step → Around C → Type 0} {x y : Serving C} {n m : S}
    → ((a : Around C) (steps : List Step) (b : Around C) → R a steps b → Q a steps b)
    → Part face did gave R x y n m → Part face did gave Q x y n m
part_less {x = x} {y} less p = part_at (λ steps r. less (stand x) steps (stand y) r) p

pub part_nothing : {C S : Type 0} {face : Face C} {did : S → Call → S → Type 0} {gave : S → ℕ → Type 0}
    (R : Around C → List Step → Around C → Type 0) (x : Serving C) (n : S)
    → R (stand x) [] (stand x) → Part face did gave R x x n n
unfolding made_nothing
part_nothing R x n none = record {
  from = λ s. record { made = made_nothing R (stand x) n s none; told = tells_nothing x.journal; conns = refl };
}
