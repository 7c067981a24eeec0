-- The program that stands for switch 1 of the design m, and its text. No clause cites it: a lemma of this crate says that
-- this text is printed of this program, and reads as it.
use Rattle.std.specs.Prelude.{ℕ, false, List, [], ◌∷◌, codes}
use Rattle.cocoon_num.specs.Values.{not_, equal, and_}
use Rattle.p4_ir.specs.P4Tree.{p_lit, p_meta, p_field, p_port, p_unary, p_binary, set_meta, apply_table, p_if, verdict, egress_port, p_return, p_done, p_then, Program}

abbrev pub m_program : Program
m_program = record {
  headers = record { name = codes "ip"; fields = record { name = codes "src"; width = 32 } ∷ record { name = codes "dst"; width = 32 } ∷ [] } ∷ [];
  meta = (record { name = codes "site"; width = 8 } ∷ record { name = codes "k0_0"; width = 16 } ∷ record { name = codes "k0_1"; width = 16 } ∷ record { name = codes "r0"; width = 32 } ∷ record { name = codes "k1_0"; width = 32 } ∷ record { name = codes "k1_1"; width = 32 } ∷ record { name = codes "r1"; width = 1 } ∷ record { name = codes "k2_0"; width = 32 } ∷ record { name = codes "r2"; width = 1 } ∷ record { name = codes "k3_0"; width = 32 } ∷ record { name = codes "r3"; width = 16 } ∷ record { name = codes "k4_0"; width = 32 } ∷ record { name = codes "r4"; width = 16 } ∷ []);
  ingress = record { tables = (record { number = 0; exact = false; keys = (1 ∷ 2 ∷ []); result = 3 } ∷ record { number = 1; exact = false; keys = (4 ∷ 5 ∷ []); result = 6 } ∷ record { number = 2; exact = false; keys = (7 ∷ []); result = 8 } ∷ record { number = 3; exact = false; keys = (9 ∷ []); result = 10 } ∷ record { number = 4; exact = false; keys = (11 ∷ []); result = 12 } ∷ []); body = (p_then (set_meta 1 (p_lit 16 1)) (p_then (set_meta 2 p_port) (p_then (apply_table 0) (p_then (p_if (p_unary not_ (p_binary equal (p_field 0 0) (p_meta 3))) (p_then p_return p_done)) (p_then (set_meta 4 (p_field 0 0)) (p_then (set_meta 5 (p_field 0 1)) (p_then (apply_table 1) (p_then (p_if (p_unary not_ (p_binary equal (p_meta 6) (p_lit 1 1))) (p_then p_return p_done)) (p_then (set_meta 7 (p_field 0 1)) (p_then (apply_table 2) (p_then (set_meta 9 (p_field 0 1)) (p_then (apply_table 3) (p_then (p_if (p_unary not_ (p_binary and_ (p_binary equal (p_meta 8) (p_lit 1 1)) (p_binary equal (p_meta 10) (p_lit 16 1)))) (p_then p_return p_done)) (p_then (set_meta 11 (p_field 0 1)) (p_then (apply_table 4) (p_then (verdict 1) (p_then (egress_port (p_meta 12)) (p_then (p_return) p_done)))))))))))))))))) };
  egress = record { tables = []; body = p_done };
}

abbrev pub m_p4 : List ℕ
m_p4 = codes "#include <core.p4>\nparser CocoonParser<H, M>(packet_in b, out H h, inout M m);\ncontrol CocoonIngress<H, M>(inout H h, inout M m, in bit<16> port, out bit<8> verdict, out bit<16> egress_port, out bit<16> group);\ncontrol CocoonEgress<H, M>(inout H h, inout M m, in bit<64> rid, out bit<8> verdict, out bit<16> egress_port);\ncontrol CocoonDeparser<H>(packet_out b, in H h);\npackage CocoonSwitch<H, M>(CocoonParser<H, M> p, CocoonIngress<H, M> i, CocoonEgress<H, M> e, CocoonDeparser<H> d);\nheader ht_ip {\n  bit<32> f_src;\n  bit<32> f_dst;\n}\nstruct Headers {\n  ht_ip h_ip;\n}\nstruct Meta {\n  bit<8> site;\n  bit<16> k0_0;\n  bit<16> k0_1;\n  bit<32> r0;\n  bit<32> k1_0;\n  bit<32> k1_1;\n  bit<1> r1;\n  bit<32> k2_0;\n  bit<1> r2;\n  bit<32> k3_0;\n  bit<16> r3;\n  bit<32> k4_0;\n  bit<16> r4;\n}\nparser Prs(packet_in b, out Headers h, inout Meta m) {\n  state start {\n    b.extract(h.h_ip);\n    transition accept;\n  }\n}\ncontrol Ing(inout Headers h, inout Meta m, in bit<16> port, out bit<8> verdict, out bit<16> egress_port, out bit<16> group) {\n  action a0(bit<32> v) { m.r0 = v; }\n  table t0 {\n    key = { m.k0_0 : ternary; m.k0_1 : ternary; }\n    actions = { a0; }\n    default_action = a0(32w0);\n  }\n  action a1(bit<1> v) { m.r1 = v; }\n  table t1 {\n    key = { m.k1_0 : ternary; m.k1_1 : ternary; }\n    actions = { a1; }\n    default_action = a1(1w0);\n  }\n  action a2(bit<1> v) { m.r2 = v; }\n  table t2 {\n    key = { m.k2_0 : ternary; }\n    actions = { a2; }\n    default_action = a2(1w0);\n  }\n  action a3(bit<16> v) { m.r3 = v; }\n  table t3 {\n    key = { m.k3_0 : ternary; }\n    actions = { a3; }\n    default_action = a3(16w0);\n  }\n  action a4(bit<16> v) { m.r4 = v; }\n  table t4 {\n    key = { m.k4_0 : ternary; }\n    actions = { a4; }\n    default_action = a4(16w0);\n  }\n  apply {\n    verdict = 8w0;\n    egress_port = 16w0;\n    group = 16w0;\n    m.k0_0 = 16w1;\n    m.k0_1 = port;\n    t0.apply();\n    if ((!(h.h_ip.f_src == m.r0))) {\n      return;\n    }\n    m.k1_0 = h.h_ip.f_src;\n    m.k1_1 = h.h_ip.f_dst;\n    t1.apply();\n    if ((!(m.r1 == 1w1))) {\n      return;\n    }\n    m.k2_0 = h.h_ip.f_dst;\n    t2.apply();\n    m.k3_0 = h.h_ip.f_dst;\n    t3.apply();\n    if ((!((m.r2 == 1w1) && (m.r3 == 16w1)))) {\n      return;\n    }\n    m.k4_0 = h.h_ip.f_dst;\n    t4.apply();\n    verdict = 8w1;\n    egress_port = m.r4;\n    return;\n  }\n}\ncontrol Egr(inout Headers h, inout Meta m, in bit<64> rid, out bit<8> verdict, out bit<16> egress_port) {\n  apply {\n    verdict = 8w0;\n    egress_port = 16w0;\n  }\n}\ncontrol Dep(packet_out b, in Headers h) {\n  apply {\n    b.emit(h.h_ip);\n  }\n}\nCocoonSwitch(Prs(), Ing(), Egr(), Dep()) main;\n"
