use Rattle.std.proofs.Common.{ap, sym, ◌∙◌}
use Rattle.matchit.specs.Seek.{first}
use Rattle.eco_wire.proofs.Finding.{not_found, found_form, read_found}
use Rattle.eco_wire.proofs.router.Router.find.Goals as goal

pub returns-in_default-at : goal.returns-in_default-at
returns-in_default-at c =
    let rows = c.args.self.now.patterns in
    let same = ap (first rows) (sym c.in-Ok.ensures.cases.0) in
    not_found rows c.args.path.now c.type_inv.path c.args.self.now.rows (same ∙ c.in_default-at.ensures.missing)

pub read_path-requires : goal.read_path-requires
read_path-requires c =
    let rows = c.args.self.now.patterns in
    let same = ap (first rows) (sym c.in-Ok.ensures.cases.0) in
    found_form rows c.args.path.now _ c.type_inv.path c.args.self.now.rows (same ∙ c.in-Ok-at.ensures.found)

pub returns : goal.returns
returns c =
    let rows = c.args.self.now.patterns in
    let text = c.in-Ok.ensures.cases in
    let same = ap (first rows) (sym text.0) in
    read_found rows c.args.path.now _ c.read_path.result c.type_inv.path text.1 c.args.self.now.rows (same ∙ c.in-Ok-at.ensures.found) c.read_path.ensures
