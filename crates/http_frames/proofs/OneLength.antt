-- How the length of a body is known by one Content-Length, and by none.
use Rattle.std.proofs.Common.{◌≡◌, ℕ, true, List, [], ◌∷◌, codes, refl, ap, ap₂, ◌∙◌, Result, Ok}
use Rattle.std.specs.Prelude.{if◌then◌else◌}
use Rattle.std.specs.Str.Parse.{digits_value}
use Rattle.http_heads.specs.Fields.{Pair}
use Rattle.http_heads.specs.declared.line.Version.{Version}
use Rattle.http_heads.specs.declared.line.Version.TheVariants.{Http10, Http11}
use Rattle.http_frames.specs.Bodies.{coding_of, fields_body, framed, is_size, size_of, values}
use Rattle.http_frames.specs.declared.body.Coding.TheVariants as coding
use Rattle.http_frames.specs.declared.body.Size.TheVariants as size
use Rattle.http_frames.specs.declared.state.Body.{Body}
use Rattle.http_frames.specs.declared.state.Body.TheVariants as body

none_framed : (version : Version) (other : Body) → framed version coding.Absent size.Absent other ≡ Ok other
none_framed Http10 other = refl
none_framed Http11 other = refl

one_framed : (version : Version) (n : ℕ) (other : Body) → framed version coding.Absent (size.Known n) other ≡ Ok (body.Length n)
one_framed Http10 n other = refl
one_framed Http11 n other = refl

pub no_length : (version : Version) (fields : List Pair) (other : Body) → values (codes "transfer-encoding") fields ≡ []
    → values (codes "content-length") fields ≡ [] → fields_body version fields other ≡ Ok other
no_length version fields other coded sized =
    ap₂ (λ c s. framed version (coding_of c) (size_of s) other) coded sized ∙ none_framed version other

pub one_length : (version : Version) (fields : List Pair) (other : Body) (text : List ℕ)
    → values (codes "transfer-encoding") fields ≡ [] → values (codes "content-length") fields ≡ text ∷ [] → is_size text ≡ true
    → fields_body version fields other ≡ Ok (body.Length (digits_value 10 text))
one_length version fields other text coded sized is =
    ap₂ (λ c s. framed version (coding_of c) (size_of s) other) coded sized
    ∙ ap (λ b. framed version coding.Absent (if b then size.Known (digits_value 10 text) else size.Bad) other) is
    ∙ one_framed version (digits_value 10 text) other
