use Rattle.std.proofs.Common.{◌≡◌, ℕ, ◌-◌, List, ◌∙◌, ap, ap₂, drop, take, length, length-drop, subst, sym, arith}
use Rattle.std.proofs.lemmas.List.{take_all}
use Rattle.http_heads.specs.Lines.{IsTarget}
use Rattle.http_heads.specs.Targets.{authority_length, path_of, rest_of}
use Rattle.http_heads.proofs.PathsAre.{path_is}
use Rattle.http_heads.proofs.received.take_apart.Goals as goal

text_is : (at : ℕ) (bytes : List ℕ) → take (length bytes - at) (drop at bytes) ≡ drop at bytes
text_is at bytes = take_all (length bytes - at) (drop at bytes) (omega (arith, length-drop at bytes))

pub read-requires : goal.read-requires
read-requires c =
    let bytes = c.as_bytes.result.now in
    let from = c.args.from in
    let target = c.args.head.now.target in
    let same : take (length bytes - from) (drop from bytes) ≡ drop from target = text_is from bytes ∙ ap (drop from) c.as_bytes.ensures.value in
    let rest : c.split_at.result.1.now ≡ rest_of (drop from target) =
    c.split_at.ensures.back ∙ ap₂ (λ n t. drop n t) (c.authority_length.ensures.value ∙ ap authority_length same) same in
    let is = subst IsTarget c.as_bytes.ensures.value c.as_bytes.ensures.is_target in
    subst IsTarget (sym (c.in_ok-path.ensures ∙ ap₂ path_of c.as_bytes-2.ensures.value rest)) (path_is target from is c.requires.inside c.requires.good c.args.head.now.method)
