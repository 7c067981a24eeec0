use Rattle.std.proofs.Common.{◌∙◌, ap, sym, subst, refl, ◌++◌, ◌∷◌, [], Some}
use Rattle.cocoon_num.specs.Tree.{a_function, an_assumption, a_role, a_host, a_switch}
use Rattle.cocoon_syntax.specs.TreeOf.{decl_of, function_of, assume_of, role_of, host_of, switch_of}
use Rattle.declarations.specs.Declares.{Holds}
use Rattle.declarations.proofs.TableFacts.{holds-more, functions-same, roles-same, or-same, or-some}
use Rattle.declarations.proofs.decl_table.DeclTable.append.Goals as goal

pub returns-in_ok-append-in-Function : goal.returns-in_ok-append-in-Function
returns-in_ok-append-in-Function c = λ placed h.
    subst (λ d. Holds (record { functions = c.append.new.self; roles = c.args.self.now.roles; host = c.args.self.now.host; switch = c.args.self.now.switch }) (placed ++ (c.args.place, d) ∷ [])) (sym (ap decl_of c.in-Function.is))
    (holds-more c.args.self.now (record { functions = c.append.new.self; roles = c.args.self.now.roles; host = c.args.self.now.host; switch = c.args.self.now.switch }) placed (c.args.place, a_function (function_of c.in-Function.function)) h
    (c.in_ok-append-in-Function.ensures placed h.functions) (roles-same c.args.self.now.roles placed (c.args.place, a_function (function_of c.in-Function.function)) refl h.roles) (or-same c.args.self.now.host) (or-same c.args.self.now.switch))

pub returns-in_ok-append-in-Role : goal.returns-in_ok-append-in-Role
returns-in_ok-append-in-Role c = λ placed h.
    subst (λ d. Holds (record { functions = c.args.self.now.functions; roles = c.append-in-Role.new.self; host = c.args.self.now.host; switch = c.args.self.now.switch }) (placed ++ (c.args.place, d) ∷ [])) (sym (ap decl_of c.in-Role.is))
    (holds-more c.args.self.now (record { functions = c.args.self.now.functions; roles = c.append-in-Role.new.self; host = c.args.self.now.host; switch = c.args.self.now.switch }) placed (c.args.place, a_role (role_of c.in-Role.role)) h
    (functions-same c.args.self.now.functions placed (c.args.place, a_role (role_of c.in-Role.role)) refl h.functions) (c.in_ok-append-in-Role.ensures placed h.roles) (or-same c.args.self.now.host) (or-same c.args.self.now.switch))

pub returns-in-Host : goal.returns-in-Host
returns-in-Host c = λ placed h.
    subst (λ d. Holds (record { functions = c.args.self.now.functions; roles = c.args.self.now.roles; host = Some c.unwrap_or.result; switch = c.args.self.now.switch }) (placed ++ (c.args.place, d) ∷ [])) (sym (ap decl_of c.in-Host.is))
    (holds-more c.args.self.now (record { functions = c.args.self.now.functions; roles = c.args.self.now.roles; host = Some c.unwrap_or.result; switch = c.args.self.now.switch }) placed (c.args.place, a_host (host_of c.in-Host.field-0)) h
    (functions-same c.args.self.now.functions placed (c.args.place, a_host (host_of c.in-Host.field-0)) refl h.functions) (roles-same c.args.self.now.roles placed (c.args.place, a_host (host_of c.in-Host.field-0)) refl h.roles) (ap Some c.unwrap_or.ensures ∙ or-some c.args.self.now.host c.args.place) (or-same c.args.self.now.switch))

pub returns-in-Switch : goal.returns-in-Switch
returns-in-Switch c = λ placed h.
    subst (λ d. Holds (record { functions = c.args.self.now.functions; roles = c.args.self.now.roles; host = c.args.self.now.host; switch = Some c.unwrap_or-in-Switch.result }) (placed ++ (c.args.place, d) ∷ [])) (sym (ap decl_of c.in-Switch.is))
    (holds-more c.args.self.now (record { functions = c.args.self.now.functions; roles = c.args.self.now.roles; host = c.args.self.now.host; switch = Some c.unwrap_or-in-Switch.result }) placed (c.args.place, a_switch (switch_of c.in-Switch.field-0)) h
    (functions-same c.args.self.now.functions placed (c.args.place, a_switch (switch_of c.in-Switch.field-0)) refl h.functions) (roles-same c.args.self.now.roles placed (c.args.place, a_switch (switch_of c.in-Switch.field-0)) refl h.roles) (or-same c.args.self.now.host) (ap Some c.unwrap_or-in-Switch.ensures ∙ or-some c.args.self.now.switch c.args.place))

pub returns-in-Assume : goal.returns-in-Assume
returns-in-Assume c = λ placed h.
    subst (λ d. Holds (c.args.self.now) (placed ++ (c.args.place, d) ∷ [])) (sym (ap decl_of c.in-Assume.is))
    (holds-more c.args.self.now (c.args.self.now) placed (c.args.place, an_assumption (assume_of c.in-Assume.field-0)) h
    (functions-same c.args.self.now.functions placed (c.args.place, an_assumption (assume_of c.in-Assume.field-0)) refl h.functions) (roles-same c.args.self.now.roles placed (c.args.place, an_assumption (assume_of c.in-Assume.field-0)) refl h.roles) (or-same c.args.self.now.host) (or-same c.args.self.now.switch))
