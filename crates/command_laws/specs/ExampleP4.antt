-- The program that stands for switch 1 of the design c, and its text. The clauses of `example_network` and
-- `example_delivers` cite it, through `ExampleNet`.
use Rattle.std.specs.Prelude.{ℕ, List, [], ◌∷◌, codes}
use Rattle.cocoon_num.specs.Values.{equal}
use Rattle.p4_ir.specs.P4Tree.{p_lit, p_field, p_binary, p_if_else, verdict, egress_port, p_return, p_done, p_then, Program}

abbrev pub c_program : Program
c_program = record {
  headers = record { name = codes "e"; fields = record { name = codes "tag"; width = 8 } ∷ [] } ∷ [];
  meta = record { name = codes "site"; width = 8 } ∷ [];
  ingress = record {
    tables = [];
    body = p_then (p_if_else (p_binary equal (p_field 0 0) (p_lit 8 1))
        (p_then (verdict 1) (p_then (egress_port (p_lit 16 1)) (p_then p_return p_done)))
        (p_then (verdict 1) (p_then (egress_port (p_lit 16 2)) (p_then p_return p_done)))) p_done;
  };
  egress = record { tables = []; body = p_done };
}

abbrev pub c_p4 : List ℕ
c_p4 = codes "#include <core.p4>\nparser CocoonParser<H, M>(packet_in b, out H h, inout M m);\ncontrol CocoonIngress<H, M>(inout H h, inout M m, in bit<16> port, out bit<8> verdict, out bit<16> egress_port, out bit<16> group);\ncontrol CocoonEgress<H, M>(inout H h, inout M m, in bit<64> rid, out bit<8> verdict, out bit<16> egress_port);\ncontrol CocoonDeparser<H>(packet_out b, in H h);\npackage CocoonSwitch<H, M>(CocoonParser<H, M> p, CocoonIngress<H, M> i, CocoonEgress<H, M> e, CocoonDeparser<H> d);\nheader ht_e {\n  bit<8> f_tag;\n}\nstruct Headers {\n  ht_e h_e;\n}\nstruct Meta {\n  bit<8> site;\n}\nparser Prs(packet_in b, out Headers h, inout Meta m) {\n  state start {\n    b.extract(h.h_e);\n    transition accept;\n  }\n}\ncontrol Ing(inout Headers h, inout Meta m, in bit<16> port, out bit<8> verdict, out bit<16> egress_port, out bit<16> group) {\n  apply {\n    verdict = 8w0;\n    egress_port = 16w0;\n    group = 16w0;\n    if ((h.h_e.f_tag == 8w1)) {\n      verdict = 8w1;\n      egress_port = 16w1;\n      return;\n    } else {\n      verdict = 8w1;\n      egress_port = 16w2;\n      return;\n    }\n  }\n}\ncontrol Egr(inout Headers h, inout Meta m, in bit<64> rid, out bit<8> verdict, out bit<16> egress_port) {\n  apply {\n    verdict = 8w0;\n    egress_port = 16w0;\n  }\n}\ncontrol Dep(packet_out b, in Headers h) {\n  apply {\n    b.emit(h.h_e);\n  }\n}\nCocoonSwitch(Prs(), Ing(), Egr(), Dep()) main;\n"
