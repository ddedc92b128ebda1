-- The row before has the same role, or another one.
use denote.Enum.Declared.{tag_of}
use Rattle.std.proofs.Common.{◌≡◌, ◌≢◌, ◌<◌, ◌-◌, Some, get_or, refl, sym, subst, ◌∙◌, arith}
use Rattle.std.proofs.lemmas.List.{get_or_default}
use Rattle.sia_graph.specs.declared.neighbours.Neighbour.{Neighbour}
use Rattle.sia_graph.specs.declared.neighbours.Role.{Role}
use Rattle.sia_graph.specs.contracts.neighbours.Role.{the_type}
use Rattle.sia_graph.specs.declared.neighbours.Role.TheVariants.{First, In, Out}
use Rattle.sia_graph.specs.Neighbours.{role_number}
use Rattle.si_audit.specs.PivotLines.{lead_number}
use Rattle.si_audit.proofs.OfReport.PivotWords.{lead_none, lead_other, role_last}
use Rattle.si_audit.proofs.pivot_lines.lead.Goals as goal

numbered : (role : Role) → tag_of the_type role ≡ role_number role
numbered In = refl
numbered Out = refl
numbered First = refl

pub returns-then-rows-row : goal.returns-then-rows-row
returns-then-rows-row c d =
    let rows = c.args.rows.now in
    let row = c.args.row in
    let none : Neighbour = record { role = In; txn = 0 } in
    let some : 0 < row = (let later = c.if-row-eq0.false in omega arith) in
    let inside = c.requires in
    let before : Role = (get_or rows (row - 1) none).role in
    let own : Role = (get_or rows row none).role in
    let same : role_number before ≡ role_number own = sym (numbered before) ∙ c.if-rows-row.true ∙ numbered own in
    subst (λ b. 4 ≡ lead_number b (get_or rows row d).role) (sym (role_last rows row none some (omega arith)))
    (subst (λ (n : Neighbour). 4 ≡ lead_number (Some before) n.role) (get_or_default rows row none d inside) (lead_none before own same))

pub returns : goal.returns
returns c d =
    let rows = c.args.rows.now in
    let row = c.args.row in
    let none : Neighbour = record { role = In; txn = 0 } in
    let some : 0 < row = (let later = c.if-row-eq0.false in omega arith) in
    let inside = c.requires in
    let before : Role = (get_or rows (row - 1) none).role in
    let own : Role = (get_or rows row none).role in
    let other : role_number before ≢ role_number own = λ same. c.if-rows-row.false (numbered before ∙ same ∙ sym (numbered own)) in
    numbered own ∙ subst (λ b. role_number own ≡ lead_number b (get_or rows row d).role) (sym (role_last rows row none some (omega arith)))
    (subst (λ (n : Neighbour). role_number own ≡ lead_number (Some before) n.role) (get_or_default rows row none d inside) (lead_other before own other))
