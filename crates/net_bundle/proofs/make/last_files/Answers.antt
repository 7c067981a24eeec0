use Rattle.std.proofs.Common.{ap, ◌∙◌, option_map}
use Rattle.serde_json.specs.Written.{compact_text}
use Rattle.net_bundle.specs.NetJson.{net_data}
use Rattle.net_bundle.proofs.InTurn.{certificates_stop, last_fit, network_stops, passed}
use Rattle.net_bundle.proofs.make.last_files.Goals as goal

pub returns-in_err-push_certificates-clause-refused : goal.returns-in_err-push_certificates-clause-refused
returns-in_err-push_certificates-clause-refused g c =
    passed _ _ c.in_err-push_certificates.field-0.0 c.from_residual-in_err-push_certificates.ensures.1
    (certificates_stop c.args.design.now (g.N.WritableNet.net c.args.net.now) _ _ c.in_err-push_certificates.ensures.refused)

pub returns-in_err-push_file-clause-refused : goal.returns-in_err-push_file-clause-refused
returns-in_err-push_file-clause-refused g c =
    passed _ _ c.in_err-push_file.field-0.0 c.from_residual-in_err-push_file.ensures.1
    (network_stops c.args.design.now (g.N.WritableNet.net c.args.net.now) (option_map (λ x. x.now) c.args.certificates) _ _
    (c.in_ok-net_text.ensures.text ∙ ap (λ f. compact_text (net_data f)) c.in_ok-held.ensures) c.in_ok-push_certificates.ensures.fit c.in_err-push_file.ensures.refused)

pub returns-clause-fit : goal.returns-clause-fit
returns-clause-fit g c =
    last_fit c.args.design.now (g.N.WritableNet.net c.args.net.now) (option_map (λ x. x.now) c.args.certificates) _
    (c.in_ok-net_text.ensures.text ∙ ap (λ f. compact_text (net_data f)) c.in_ok-held.ensures) c.in_ok-push_certificates.ensures.fit c.in_ok-push_file.ensures.fit
