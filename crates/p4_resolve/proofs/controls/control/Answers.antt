use Rattle.std.proofs.Common.{◌≡◌, ◌+◌, ◌∙◌, ap, ap₂, subst, refl, rules, map, true, Err}
use Rattle.cocoon_num.specs.Lists.{each}
use Rattle.p4_ir.specs.P4Kinds.{numbers_of}
use Rattle.p4_ir.specs.P4Tree as tree
use Rattle.p4_ir.specs.Program as ir
use Rattle.p4_kinds.specs.Seen.{HasNumbers}
use Rattle.p4_texts.specs.KindFaults.{block_pieces, control_pieces, stands_in, table_pieces}
use Rattle.p4_texts.specs.Meant.{block_meant, table_meant}
use Rattle.p4_texts.specs.TreeOf.{body_of, control_of, table_of}
use Rattle.p4_resolve.specs.Controls.{action_names, table_numbers}
use Rattle.p4_resolve.specs.Numbered.{is_small}
use Rattle.p4_resolve.specs.Judged.{Passes, StopsBy, index}
use Rattle.p4_resolve.proofs.ControlFacts.{body_stops, control_passes, tables_stop}
use Rattle.p4_resolve.proofs.PieceFacts.{handed_on}
use Rattle.p4_resolve.proofs.controls.control.Goals as goal

pub returns-clause-keeps : goal.returns-clause-keeps
returns-clause-keeps c = λ t done begin f known before.
    let own = control_of c.args.control.now in
    let b = c.args.scope.now.in_ingress in
    let k = c.in_ok-tables.ensures.keeps t done known before in
    let tables = subst (λ ts. Passes c.args.at (table_pieces t (action_names done) (table_numbers t done) (map table_of ts)) c.in_ok-tables.head) c.items.ensures k.passes in
    let made = k.is ∙ ap (λ ts. map (table_meant t) (map table_of ts)) c.items.ensures in
    let numbers = subst (λ ts. HasNumbers c.in_ok-numbers.numbers.keys (numbers_of ts)) (ap (map ir.table_of) c.deref.ensures.value ∙ made) c.in_ok-numbers.ensures in
    let small = subst (λ ts. each is_small (numbers_of ts) ≡ true) made k.small in
    let at = c.after-begin.ensures ∙ ap (λ n. index (c.in_ok-tables.head + n)) f in
    let body = c.in_ok-body.ensures.keeps t (stands_in t b own) (record { program_headers = known.program_headers; program_meta = known.program_meta; in_ingress = refl; meta = known.meta; headers = known.headers; fields = known.fields; tables = numbers; small = small }) in
    let inside = subst (λ ss. Passes c.after-begin.result (block_pieces t (stands_in t b own) (body_of ss)) c.in_ok-body.close) c.items-2.ensures body.passes in
    record {
      is = ap₂ (λ ts ss. let made : tree.Control = record { tables = ts; body = ss } in made) (ap (map ir.table_of) c.from-tables.ensures ∙ made)
          (ap (λ ss. ir.block_of (map ir.stmt_of ss)) c.from-body.ensures ∙ body.is ∙ ap (λ ss. block_meant t (body_of ss)) c.items-2.ensures);
      passes = control_passes t done b begin own c.args.at c.in_ok-tables.head c.after-begin.result c.in_ok-body.close c.after-end.result tables at inside c.after-end.ensures;
      before = rw c.items.ensures at k.before;
    }

pub returns-clause-known : goal.returns-clause-known
returns-clause-known c = λ t known. record { program_headers = known.program_headers; program_meta = known.program_meta; meta = known.meta; headers = known.headers; fields = known.fields }

pub returns-in_err-tables-clause-stops : goal.returns-in_err-tables-clause-stops
returns-in_err-tables-clause-stops c = λ t done begin f known before.
    let own = control_of c.args.control.now in
    let b = c.args.scope.now.in_ingress in
    let same : c.from_residual.result ≡ Err c.in_err-tables.field-0.0 = search rules in
    handed_on c.from_residual.result c.in_err-tables.field-0.0 (StopsBy c.args.at (control_pieces t done b begin own)) same
    (tables_stop t done b begin own c.args.at c.in_err-tables.field-0.0 (subst (λ ts. StopsBy c.args.at (table_pieces t (action_names done) (table_numbers t done) (map table_of ts)) c.in_err-tables.field-0.0) c.items.ensures (c.in_err-tables.ensures.stops t done known before)))

pub returns-in_err-body-clause-stops : goal.returns-in_err-body-clause-stops
returns-in_err-body-clause-stops c = λ t done begin f known before.
    let own = control_of c.args.control.now in
    let b = c.args.scope.now.in_ingress in
    let k = c.in_ok-tables.ensures.keeps t done known before in
    let tables = subst (λ ts. Passes c.args.at (table_pieces t (action_names done) (table_numbers t done) (map table_of ts)) c.in_ok-tables.head) c.items.ensures k.passes in
    let made = k.is ∙ ap (λ ts. map (table_meant t) (map table_of ts)) c.items.ensures in
    let numbers = subst (λ ts. HasNumbers c.in_ok-numbers.numbers.keys (numbers_of ts)) (ap (map ir.table_of) c.deref.ensures.value ∙ made) c.in_ok-numbers.ensures in
    let small = subst (λ ts. each is_small (numbers_of ts) ≡ true) made k.small in
    let at = c.after-begin.ensures ∙ ap (λ n. index (c.in_ok-tables.head + n)) f in
    let fault = c.in_err-body.field-0.0 in
    let same : c.from_residual-in_err-body.result ≡ Err c.in_err-body.field-0.0 = search rules in
    let stops = c.in_err-body.ensures.stops t (stands_in t b own) (record { program_headers = known.program_headers; program_meta = known.program_meta; in_ingress = refl; meta = known.meta; headers = known.headers; fields = known.fields; tables = numbers; small = small }) in
    handed_on c.from_residual-in_err-body.result fault (StopsBy c.args.at (control_pieces t done b begin own)) same
    (body_stops t done b begin own c.args.at c.in_ok-tables.head c.after-begin.result fault tables at (subst (λ ss. StopsBy c.after-begin.result (block_pieces t (stands_in t b own) (body_of ss)) fault) c.items-2.ensures stops))
