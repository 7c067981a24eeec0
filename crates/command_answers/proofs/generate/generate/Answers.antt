use Rattle.std.proofs.Common.{◌≡◌, IfErr, List, Ok, Option, Some, subst, sym, ◌∙◌, ℕ}
use Rattle.command_line.specs.Command.{gen}
use Rattle.net_bundle.specs.Bundle.{bundle}
use Rattle.net_bundle.specs.Writing.{AllFit}
use Rattle.shared_net.specs.Shared.{shared_of}
use Rattle.command_answers.specs.Generating.{NotTold}
use Rattle.command_answers.specs.Answering.{Asked}
use Rattle.command_answers.specs.FolderCalls.{IsQuiet}
use Rattle.command_answers.specs.Steps.{generated}
use Rattle.command_answers.proofs.Counted.{passed}
use Rattle.command_answers.proofs.Generating.{IsBundle, MadeBy, MadeIn, counted, made_in, plans_compile, refused_by, texts_are, unfinished, untold, untold_quiet}
use Rattle.command_answers.proofs.TextSteps.{Texts}
use Rattle.command_answers.specs.declared.answer.Writing.{Writing}
use Rattle.command_answers.specs.declared.answer.Writing.TheVariants.{Nothing}
use Rattle.command_answers.proofs.generate.generate.Goals as goal

pub returns-in_err-compiled-clause-asked : goal.returns-in_err-compiled-clause-asked
returns-in_err-compiled-clause-asked c = λ inputs.
    let hosts = c.args.asked.now.hosts in
    let packets = c.args.asked.now.packets in
    let x = c.deref.result.now in
    let y = c.deref-2.result.now in
    let t : Texts (generated hosts) x y = texts_are hosts x y (c.deref.ensures.value ∙ c.in_ok-design.ensures) (c.deref-2.ensures.value ∙ c.in_ok-defs.ensures.text) in
    let r = c.in_err-compiled.field-0.0 in
    passed (Asked (gen hosts packets) inputs) _ r c.from_residual-in_err-compiled.ensures.1 (refused_by hosts packets inputs r (c.in_err-compiled.ensures.asked (generated hosts) t.design t.defs))

pub returns-in-Nothing-clause-asked : goal.returns-in-Nothing-clause-asked
returns-in-Nothing-clause-asked c = λ inputs.
    let hosts = c.args.asked.now.hosts in
    let packets = c.args.asked.now.packets in
    let x = c.deref.result.now in
    let y = c.deref-2.result.now in
    let t : Texts (generated hosts) x y = texts_are hosts x y (c.deref.ensures.value ∙ c.in_ok-design.ensures) (c.deref-2.ensures.value ∙ c.in_ok-defs.ensures.text) in
    let compiled = c.in_ok-compiled.compiled in
    subst (λ (w : Writing). Asked (gen hosts packets) inputs (Ok (record { report = compiled.report; writing = w }))) c.in-Nothing.is
    (unfinished hosts packets inputs x y compiled (λ p. subst (plans_compile x y) c.in-Nothing.is p) c.in_ok-compiled.ensures.plans (c.in_ok-compiled.ensures.asked (generated hosts) t.design t.defs))

pub returns-in-Own-clause-asked : goal.returns-in-Own-clause-asked
returns-in-Own-clause-asked c = λ inputs.
    let hosts = c.args.asked.now.hosts in
    let packets = c.args.asked.now.packets in
    let x = c.deref.result.now in
    let y = c.deref-2.result.now in
    let t : Texts (generated hosts) x y = texts_are hosts x y (c.deref.ensures.value ∙ c.in_ok-design.ensures) (c.deref-2.ensures.value ∙ c.in_ok-defs.ensures.text) in
    let compiled = c.in_ok-compiled.compiled in
    subst (λ (w : Writing). Asked (gen hosts packets) inputs (Ok (record { report = compiled.report; writing = w }))) c.in-Own.is
    (unfinished hosts packets inputs x y compiled (λ p. subst (plans_compile x y) c.in-Own.is p) c.in_ok-compiled.ensures.plans (c.in_ok-compiled.ensures.asked (generated hosts) t.design t.defs))

pub returns-in_err-lines-in-Bundle-clause-asked : goal.returns-in_err-lines-in-Bundle-clause-asked
returns-in_err-lines-in-Bundle-clause-asked c = λ inputs.
    let hosts = c.args.asked.now.hosts in
    let packets = c.args.asked.now.packets in
    let x = c.deref.result.now in
    let y = c.deref-2.result.now in
    let t : Texts (generated hosts) x y = texts_are hosts x y (c.deref.ensures.value ∙ c.in_ok-design.ensures) (c.deref-2.ensures.value ∙ c.in_ok-defs.ensures.text) in
    let compiled = c.in_ok-compiled.compiled in
    let made : MadeBy hosts x y (shared_of c.in-Bundle.net) c.in-Bundle.certificates =
    subst (MadeIn hosts x y) c.in-Bundle.is (made_in hosts x y compiled t (subst IsBundle (sym c.in-Bundle.is) tt) c.in_ok-compiled.ensures.plans (c.in_ok-compiled.ensures.asked (generated hosts) t.design t.defs)) in
    let same = c.deref-in-Bundle.ensures.value ∙ sym c.deref.ensures.value in
    let r = c.in_err-lines-in-Bundle.field-0.0 in
    let refused : NotTold (bundle x (shared_of c.in-Bundle.net) (Some made.bytes)) (shared_of c.in-Bundle.net) hosts packets r =
    subst (λ (o : Option (List ℕ)). NotTold (bundle x (shared_of c.in-Bundle.net) o) (shared_of c.in-Bundle.net) hosts packets r) made.are
    (subst (λ (z : List ℕ). NotTold (bundle z (shared_of c.in-Bundle.net) c.in-Bundle.certificates) (shared_of c.in-Bundle.net) hosts packets r) same c.in_err-lines-in-Bundle.ensures.refused) in
    passed (Asked (gen hosts packets) inputs) _ r c.from_residual-in_err-lines-in-Bundle.ensures.1 (untold hosts packets inputs x y (shared_of c.in-Bundle.net) made.bytes r made.made refused)

pub returns-in_err-lines-in-Bundle-clause-quiet : goal.returns-in_err-lines-in-Bundle-clause-quiet
returns-in_err-lines-in-Bundle-clause-quiet c =
    let r = c.in_err-lines-in-Bundle.field-0.0 in
    passed (λ answer. IfErr answer IsQuiet) _ r c.from_residual-in_err-lines-in-Bundle.ensures.1
    (untold_quiet _ (shared_of c.in-Bundle.net) c.args.asked.now.hosts c.args.asked.now.packets r c.in_err-lines-in-Bundle.ensures.refused)

pub returns-clause-asked : goal.returns-clause-asked
returns-clause-asked c = λ inputs.
    let hosts = c.args.asked.now.hosts in
    let packets = c.args.asked.now.packets in
    let x = c.deref.result.now in
    let y = c.deref-2.result.now in
    let t : Texts (generated hosts) x y = texts_are hosts x y (c.deref.ensures.value ∙ c.in_ok-design.ensures) (c.deref-2.ensures.value ∙ c.in_ok-defs.ensures.text) in
    let compiled = c.in_ok-compiled.compiled in
    let made : MadeBy hosts x y (shared_of c.in-Bundle.net) c.in-Bundle.certificates =
    subst (MadeIn hosts x y) c.in-Bundle.is (made_in hosts x y compiled t (subst IsBundle (sym c.in-Bundle.is) tt) c.in_ok-compiled.ensures.plans (c.in_ok-compiled.ensures.asked (generated hosts) t.design t.defs)) in
    let same = c.deref-in-Bundle.ensures.value ∙ sym c.deref.ensures.value in
    let fit : AllFit (bundle x (shared_of c.in-Bundle.net) (Some made.bytes)) =
    subst (λ (o : Option (List ℕ)). AllFit (bundle x (shared_of c.in-Bundle.net) o)) made.are (subst (λ (z : List ℕ). AllFit (bundle z (shared_of c.in-Bundle.net) c.in-Bundle.certificates)) same c.in_ok-lines-in-Bundle.ensures.fit) in
    let lines = c.in_ok-lines-in-Bundle.lines.items in
    counted c.as_many_are_reached.ensures hosts packets inputs x y (shared_of c.in-Bundle.net) made.bytes lines (record { report = c.success.result; writing = Nothing }) made.made fit
    c.in_ok-lines-in-Bundle.ensures.tells c.success.ensures
