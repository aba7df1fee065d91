-- How long the body is that goes on behind a head, and that the head says so.
use Rattle.std.proofs.Common.{◌≡◌, refl, sym, ap, ap₂, subst, ◌∙◌, ℕ, ◌+◌, ◌-◌, ◌^◌, ◌<◌, true, cond, List, [], ◌∷◌, length, map, codes, Option, Some, None, Ok, arith, All}
use Rattle.std.specs.Prelude.{◌==◌, min}
use Rattle.std.specs.Fmt.{decimal}
use Rattle.std.specs.Str.{bytes_eq}
use Rattle.std.specs.Str.Parse.{digits_value}
use Rattle.std.proofs.lemmas.Bool.{and_parts, cond-true}
use Rattle.std.proofs.lemmas.Bool.Decides.{nat_tests}
use Rattle.std.proofs.lemmas.List.Elements.{filter_passes}
use Rattle.px_bytes.proofs.Tests.{by_cases}
use Rattle.px_bytes.specs.Letters.{lowered}
use Rattle.http_heads.specs.Fields.{Pair, are_trimmed, bare, is_named, is_trimmed, named}
use Rattle.http_heads.specs.Forwarded.{with_length}
use Rattle.http_heads.specs.Heads.{bare_request}
use Rattle.http_heads.specs.declared.line.Version.{Version}
use Rattle.http_heads.specs.declared.line.Version.TheVariants.{Http11}
use Rattle.http_heads.specs.declared.request.RequestHead.{RequestHead}
use Rattle.http_heads.proofs.Trimmed.{trim_same}
use Rattle.http_frames.specs.Bodies.{coding_of, fields_body, framed, is_size, request_body, size_of, values}
use Rattle.http_frames.specs.declared.state.Body.{Body}
use Rattle.http_frames.specs.declared.state.Body.TheVariants as body
use Rattle.http_frames.specs.declared.state.BodyState.TheVariants as state
use Rattle.http_frames.proofs.OneLength.{no_length, one_length}
use Rattle.irule_http.specs.Sent.{changed_length, length_limit, request_out}
use Rattle.irule_http.specs.declared.state.Http.{Http}
use Rattle.conn_trace.specs.Http.{gathered_so}
use Rattle.forwarded_requests.specs.Forwarded.{HasShortLength, IsFramed, Stands, gathered_text, left_in}
use Rattle.forwarded_requests.proofs.Decimals.{is_length}
use Rattle.forwarded_requests.proofs.Framings.{Coded, Length, Nothing, Said, said}
use Rattle.forwarded_requests.proofs.PassedFields.{coding, codings_out, first, out, size, sizes_out, told_out}

abbrev told : Http → Option ℕ
told h = changed_length h.body h.gathered h.payload

-- the body that goes on, of which so much wasn't gathered
abbrev pub body_out : Body → Http → ℕ → Body
body_out (body.Length total) h left = body.Length (length (gathered_text h.gathered h.payload) + left)
body_out b h left = b

values_by : (name : List ℕ) (fields : List Pair) (some : List Pair) → named name fields ≡ some → values name fields ≡ map (λ f. f.1) some
values_by name fields some is = ap (map (λ f. f.1)) is

-- ---- the length that is told

module _ (version : Version) (fields : List Pair) (f : Pair) (more : List Pair) (uncoded : named coding fields ≡ []) (sized : named size fields ≡ f ∷ more) where
  trimmed_first : are_trimmed (named size fields) ≡ true → is_trimmed f.1 ≡ true
  trimmed_first all = (and_parts (is_trimmed f.1) (are_trimmed more) (sym (ap are_trimmed sized) ∙ all)).0

  is_size_field : is_named size f ≡ true
  is_size_field = (subst (All (λ g. is_named size g ≡ true)) sized (filter_passes (is_named size) fields)) 0 f (omega arith)

  no_coding : (t : Option ℕ) → values coding (out t fields) ≡ []
  no_coding t = values_by coding (out t fields) [] (codings_out t fields (ap are_trimmed uncoded) ∙ uncoded)

  size_text : (t : Option ℕ) (text : List ℕ) → (bare (with_length t f)).1 ≡ text → values size (out t fields) ≡ text ∷ []
  size_text t text is =
      values_by size (out t fields) (map bare (map (with_length t) (f ∷ []))) (sizes_out t fields ∙ ap (λ fs. map bare (map (with_length t) (first fs))) sized)
      ∙ ap (λ v. v ∷ []) is

  same_length : are_trimmed (named size fields) ≡ true → is_size f.1 ≡ true
      → fields_body version (out None fields) body.None ≡ Ok (body.Length (digits_value 10 f.1))
  same_length trimmed is = one_length version (out None fields) body.None f.1 (no_coding None) (size_text None f.1 (trim_same f.1 (trimmed_first trimmed))) is

  other_length : (n : ℕ) → n < 10 ^ 18 → fields_body version (out (Some n) fields) body.None ≡ Ok (body.Length n)
  other_length n small =
      let is = is_length n small in
      one_length version (out (Some n) fields) body.None (decimal n) (no_coding (Some n))
      (size_text (Some n) (decimal n) (ap (λ g. (bare g).1) (told_out n f is_size_field) ∙ trim_same (decimal n) is.trimmed)) is.size
      ∙ ap (λ v. Ok (body.Length v)) is.value

  -- by what was gathered, and what goes on of it
  length_out : (total : ℕ) (gathered : Option ℕ) (payload : List ℕ) (left : ℕ) → are_trimmed (named size fields) ≡ true → is_size f.1 ≡ true
      → total ≡ digits_value 10 f.1 → gathered_so gathered + left ≡ total
      → left + length (gathered_text gathered payload) < 10 ^ 18
      → fields_body version (out (changed_length (body.Length total) gathered payload) fields) body.None ≡ Ok (body.Length (length (gathered_text gathered payload) + left))
  length_out total None payload left trimmed is so all small =
      same_length trimmed is ∙ ap (λ n. Ok (body.Length n)) (omega (arith, so, all))
  length_out total (Some n) payload left trimmed is so all small =
      by_cases (λ t. (n == length payload) ≡ t → fields_body version (out (cond t None (Some (min (total - n + length payload) length_limit))) fields) body.None ≡ Ok (body.Length (length payload + left)))
      (n == length payload)
      (λ same e. same_length trimmed is ∙ ap (λ k. Ok (body.Length k)) (let l : n ≡ length payload = grind (arith, nat_tests) in omega (arith, so, all, l)))
      (λ other e. let value : min (total - n + length payload) length_limit ≡ length payload + left = omega (arith, all, small) in
      ap (λ k. fields_body version (out (Some k) fields) body.None) value ∙ other_length (length payload + left) (omega (arith, small))) refl

-- ---- by what the head says

abbrev pub left_of : (b : Body) (h : Http) → Stands b h → ℕ
left_of (body.Length total) h is = is.0
left_of b h is = 0

-- how much is left, by the reader
still_left : (h : Http) (left : ℕ) → h.reader ≡ state.Left left → HasShortLength h
    → left + length (gathered_text h.gathered h.payload) < 10 ^ 18
still_left h left is short = subst (λ s. left_in s + length (gathered_text h.gathered h.payload) < 10 ^ 18) is short

module _ (h : Http) (head : RequestHead) (short : HasShortLength h)
    (codings : are_trimmed (named coding head.fields) ≡ true) (sizes : are_trimmed (named size head.fields) ≡ true) where
  out_by : (b : Body) (stands : Stands b h) → Said (named coding head.fields) (named size head.fields) head.version b
      → fields_body head.version (out (changed_length b h.gathered h.payload) head.fields) body.None ≡ Ok (body_out b h (left_of b h stands))
  out_by body.None stands (Nothing uncoded unsized) =
      no_length head.version (out None head.fields) body.None
      (values_by coding (out None head.fields) [] (codings_out None head.fields codings ∙ uncoded))
      (values_by size (out None head.fields) [] (sizes_out None head.fields ∙ ap (λ fs. map bare (map (with_length None) (first fs))) unsized))
  out_by (body.Length total) stands (Length f more uncoded sized is) =
      length_out head.version head.fields f more uncoded sized total h.gathered h.payload stands.0 sizes is refl stands.2
      (still_left h stands.0 stands.1 short)
  out_by body.Chunked stands (Coded f coded unsized later is) =
      ap (λ v. fields_body v (out None head.fields) body.None) later
      ∙ ap₂ (λ c s. framed Http11 (coding_of c) (size_of s) body.None)
      (values_by coding (out None head.fields) (f ∷ []) (codings_out None head.fields codings ∙ coded))
      (values_by size (out None head.fields) [] (sizes_out None head.fields ∙ ap (λ fs. map bare (map (with_length None) (first fs))) unsized))
      ∙ ap (λ k. framed Http11 k (size_of []) body.None) (cond-true (bytes_eq (lowered f.1) (lowered (codes "chunked"))) _ _ is)
  out_by body.ToEnd stands _ = elim stands [ ]

pub framed_out : (h : Http) (head : RequestHead) (is : IsFramed h head) → HasShortLength h
    → request_body (bare_request (request_out h head)) ≡ Ok (body_out h.body h (left_of h.body h is.stands))
framed_out h head is short =
    out_by h head short is.codings is.sizes h.body is.stands
    (said head.version (named coding head.fields) (named size head.fields) h.body is.framed)
