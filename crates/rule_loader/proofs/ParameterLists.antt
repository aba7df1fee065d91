-- Parameters, one after another.
use Rattle.std.proofs.Common.{◌≡◌, ℕ, suc, ◌+◌, ◌<◌, List, [], ◌∷◌, ◌++◌, length, get_or, drop, drop-cons, Option, Some, None, option_map, refl, sym, ap, ◌∙◌, arith}
use Rattle.std.proofs.lemmas.List.{append_assoc, append-nil}
use Rattle.rule_loader.specs.Parameters.{all_parameters, before_rest, read_parameter}
use Rattle.tcl_trees.specs.declared.procs.Parameter.{Parameter}

behind : (done : List Parameter) (p : Parameter) (o : Option (List Parameter))
    → option_map (λ ps. done ++ ps) (option_map (λ ps. p ∷ ps) o) ≡ option_map (λ ps. (done ++ p ∷ []) ++ ps) o
behind done p None = refl
behind done p (Some ps) = ap Some (sym (append_assoc done (p ∷ []) ps))

-- one text more
pub one_more : (done new : List Parameter) (p : Parameter) (text : List ℕ) (texts : List (List ℕ)) → Some p ≡ read_parameter text → new ≡ done ++ p ∷ []
    → option_map (λ ps. done ++ ps) (all_parameters (text ∷ texts)) ≡ option_map (λ ps. new ++ ps) (all_parameters texts)
one_more done new p text texts is more =
    ap (λ o. option_map (λ ps. done ++ ps) (before_rest o (all_parameters texts))) (sym is)
    ∙ behind done p (all_parameters texts)
    ∙ ap (λ l. option_map (λ ps. l ++ ps) (all_parameters texts)) (sym more)

pub none_here : (done : List Parameter) (text : List ℕ) (texts : List (List ℕ)) → None ≡ read_parameter text
    → option_map (λ ps. done ++ ps) (all_parameters (text ∷ texts)) ≡ None
none_here done text texts is = ap (λ o. option_map (λ ps. done ++ ps) (before_rest o (all_parameters texts))) (sym is)

pub text_at : (texts : List (List ℕ)) (i : ℕ) (text : List ℕ) → i < length texts → text ≡ get_or texts i text → drop i texts ≡ text ∷ drop (i + 1) texts
text_at texts i text there is =
    let next : suc i ≡ i + 1 = omega arith in
    drop-cons texts i text there ∙ ap (λ t. t ∷ drop (suc i) texts) (sym is) ∙ ap (λ k. text ∷ drop k texts) next
