use Rattle.std.proofs.Common.{◌≡◌, ap, sym, arith, rules}
use Rattle.std.specs.Prelude.{codes}
use Rattle.std.proofs.lemmas.Slice.Eq.{text_from_reads}
use Rattle.tcl_strings.specs.Form.{form_named}
use Rattle.tcl_strings.proofs.form.form_named.Goals as goal

pub returns-in-match : goal.returns-in-match
returns-in-match c =
    let is : c.args.name.now ≡ codes "match" = text_from_reads c.args.name.now (codes "match") (omega arith) (search rules) in ap form_named (sym is)

pub returns-in-equal : goal.returns-in-equal
returns-in-equal c =
    let is : c.args.name.now ≡ codes "equal" = text_from_reads c.args.name.now (codes "equal") (omega arith) (search rules) in ap form_named (sym is)

pub returns-in-length : goal.returns-in-length
returns-in-length c =
    let is : c.args.name.now ≡ codes "length" = text_from_reads c.args.name.now (codes "length") (omega arith) (search rules) in ap form_named (sym is)

pub returns-in-repeat : goal.returns-in-repeat
returns-in-repeat c =
    let is : c.args.name.now ≡ codes "repeat" = text_from_reads c.args.name.now (codes "repeat") (omega arith) (search rules) in ap form_named (sym is)

pub returns-in-tolower : goal.returns-in-tolower
returns-in-tolower c =
    let is : c.args.name.now ≡ codes "tolower" = text_from_reads c.args.name.now (codes "tolower") (omega arith) (search rules) in ap form_named (sym is)

pub returns-in-toupper : goal.returns-in-toupper
returns-in-toupper c =
    let is : c.args.name.now ≡ codes "toupper" = text_from_reads c.args.name.now (codes "toupper") (omega arith) (search rules) in ap form_named (sym is)

pub returns-in-compare : goal.returns-in-compare
returns-in-compare c =
    let is : c.args.name.now ≡ codes "compare" = text_from_reads c.args.name.now (codes "compare") (omega arith) (search rules) in ap form_named (sym is)

pub returns-in-trimleft : goal.returns-in-trimleft
returns-in-trimleft c =
    let is : c.args.name.now ≡ codes "trimleft" = text_from_reads c.args.name.now (codes "trimleft") (omega arith) (search rules) in ap form_named (sym is)

pub returns-in-trimright : goal.returns-in-trimright
returns-in-trimright c =
    let is : c.args.name.now ≡ codes "trimright" = text_from_reads c.args.name.now (codes "trimright") (omega arith) (search rules) in ap form_named (sym is)
