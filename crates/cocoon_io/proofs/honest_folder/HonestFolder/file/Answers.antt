use Rattle.std.proofs.Common.{ap, sym, ◌∙◌, option_map, Some}
use Rattle.std.specs.FinMap.{get}
use Rattle.cocoon_io.proofs.Held.{get_file}
use Rattle.cocoon_io.proofs.honest_folder.HonestFolder.file.Goals as goal

pub returns-in-Some : goal.returns-in-Some
returns-in-Some c =
    ap Some c.as_slice.ensures.value
    ∙ ap (option_map (λ v. v.items)) c.in-Some.ensures.value
    ∙ sym (get_file c.self.inside.files.entries c.args.name.now)
    ∙ ap (λ m. get m c.args.name.now) c.self.view_is

pub returns-in-None : goal.returns-in-None
returns-in-None c =
    ap (option_map (λ v. v.items)) c.in-None.ensures.value
    ∙ sym (get_file c.self.inside.files.entries c.args.name.now)
    ∙ ap (λ m. get m c.args.name.now) c.self.view_is
