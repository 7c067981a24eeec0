use Rattle.std.proofs.Common.{◌≡◌, ap₂, ◌∙◌}
use Rattle.clap.specs.Words.{App, with_subcommand}
use Rattle.command_line.proofs.subcommands.cocoon_app.Goals as goal

-- one more subcommand
added : (a b s t : App) → a ≡ b → s ≡ t → with_subcommand a s.top ≡ with_subcommand b t.top
added a b s t p q = ap₂ (λ (x y : App). with_subcommand x y.top) p q

-- the subcommands, each behind those before it
pub returns : goal.returns
returns c =
    let checks = c.in_ok-command.ensures ∙ added _ _ _ _ c.new-command.ensures.app c.in_ok-check_app.ensures.app in
    let compiles = c.in_ok-command-2.ensures ∙ added _ _ _ _ checks c.in_ok-compile_app.ensures.app in
    let updates = c.in_ok-command-3.ensures ∙ added _ _ _ _ compiles c.in_ok-update_app.ensures.app in
    let steps = c.in_ok-command-4.ensures ∙ added _ _ _ _ updates c.in_ok-step_app.ensures.app in
    let forwards = c.in_ok-command-5.ensures ∙ added _ _ _ _ steps c.in_ok-forward_app.ensures.app in
    c.in_ok-command-6.ensures ∙ added _ _ _ _ forwards c.in_ok-gen_app.ensures.app
