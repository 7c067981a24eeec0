use Rattle.std.proofs.Common.{◌==◌, None, Some, ap, ◌∙◌, map}
use Rattle.std.specs.List.{find}
use Rattle.cocoon_num.specs.Lists.{ascend}
use Rattle.net_run.specs.declared.switch.LoadedSwitch.{LoadedSwitch}
use Rattle.net_run.proofs.Wired.{found_runs, rising}
use Rattle.net_run.proofs.net.Net.loaded.Goals as goal

pub switch_at-requires : goal.switch_at-requires
switch_at-requires c =
    ap (λ ss. ascend (map (λ (s : LoadedSwitch). s.number) ss)) c.deref.ensures.value ∙ (rising c.args.self.now).switches

pub returns-in-Some : goal.returns-in-Some
returns-in-Some c =
    let ss = c.args.self.now.switches.items in
    let test = λ (s : LoadedSwitch). s.number == c.args.switch in
    ∣ found_runs ss c.args.switch (Some c.in-Some.known.now) (c.in-Some.ensures ∙ ap (find test) c.deref.ensures.value) ∣₁

pub returns-in-None : goal.returns-in-None
returns-in-None c =
    let ss = c.args.self.now.switches.items in
    let test = λ (s : LoadedSwitch). s.number == c.args.switch in
    ∣ found_runs ss c.args.switch None (c.in-None.ensures ∙ ap (find test) c.deref.ensures.value) ∣₁
