-- Cited by the clause of `design_text`: the design of the network that is generated. One level says which hosts may send to
-- which, the other has one switch with 256 ports.
use Rattle.std.specs.Prelude.{ℕ, List, [], ◌++◌, codes}

-- who may send what to whom
abbrev pub policy : List ℕ
policy =
    codes "packet { header ip { src: bit<32>; dst: bit<32>; } }\n" ++ (
    codes "function cHost(a: bit<32>): bool;\n" ++ (
    codes "function acl(s: bit<32>, d: bit<32>): bool;\n" ++ (
    codes "role HostOut[a: bit<32>] | cHost(a) = {\n" ++ (
    codes "  filter pkt.ip.src == a and acl(pkt.ip.src, pkt.ip.dst);\n" ++ (
    codes "  send HostIn[pkt.ip.dst];\n" ++ (
    codes "}\n" ++ (
    codes "role HostIn[a: bit<32>] | cHost(a);\n" ++ (
    codes "host (HostOut, HostIn);\n"))))))))

-- the functions of the refinement, and what is assumed of them
abbrev pub functions : List ℕ
functions =
    codes "refine HostOut within 3 {\n" ++ (
    codes "  function sw(s: bit<16>): bool;\n" ++ (
    codes "  function swOf(a: bit<32>): bit<16>;\n" ++ (
    codes "  function portOf(a: bit<32>): bit<16>;\n" ++ (
    codes "  function hostAt(s: bit<16>, p: bit<16>): bit<32>;\n" ++ (
    codes "  assume (a: bit<32>) cHost(a) => hostAt(swOf(a), portOf(a)) == a;\n")))))

-- a host sends to its switch, which filters
abbrev pub ingress : List ℕ
ingress =
    codes "  role HostOut[a: bit<32>] | cHost(a) = {\n" ++ (
    codes "    send SwIn[swOf(a), portOf(a)];\n" ++ (
    codes "  }\n" ++ (
    codes "  role SwIn[s: bit<16>, p: bit<16>] | sw(s) and p < 16w256 = {\n" ++ (
    codes "    filter pkt.ip.src == hostAt(s, p);\n" ++ (
    codes "    filter acl(pkt.ip.src, pkt.ip.dst);\n" ++ (
    codes "    filter cHost(pkt.ip.dst) and swOf(pkt.ip.dst) == s;\n" ++ (
    codes "    send SwOut[s, portOf(pkt.ip.dst)];\n" ++ (
    codes "  }\n"))))))))

-- a switch sends to its hosts
abbrev pub egress : List ℕ
egress =
    codes "  role SwOut[s: bit<16>, p: bit<16>] | sw(s) and p < 16w256 = {\n" ++ (
    codes "    send HostIn[hostAt(s, p)];\n" ++ (
    codes "  }\n" ++ (
    codes "  switch (SwIn, SwOut) ports 256;\n" ++ (
    codes "}\n"))))

abbrev pub design_text : List ℕ
design_text = policy ++ (functions ++ (ingress ++ egress))
