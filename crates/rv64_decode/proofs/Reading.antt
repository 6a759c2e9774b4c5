-- An instruction that is read has its operands in range, and its fields are those that were read.
use Rattle.std.proofs.Common.{◌≡◌, ℕ, pos, ◌+◌, ◌/◌, ◌%◌, ◌^◌, ◌<◌, Some, inl, inr, zero, suc, refl, ap, sym, subst, ◌∙◌, arith, eqb-true, ◌==◌, ◌&&◌}
use Rattle.std.proofs.lemmas.Bool.{and_parts}
use Rattle.std.proofs.lemmas.Option.{option_and_then_some}
use Rattle.std.specs.Int.{from_bool}
use Rattle.std.specs.Map.{lookup}
use Rattle.std.specs.Option.{option_map, option_or}
use Rattle.rv64_decode.specs.declared.fields.Fields.{Fields}
use Rattle.rv64_decode.specs.declared.instr.Instr.{Instr}
use Rattle.rv64_decode.specs.declared.instr.Instr.TheVariants.{Lui, Auipc, Jal, Jalr, Branch, Load, Store, AluImm, AluWImm, Alu, AluW, Mul, Fence, FenceI, SfenceVma, Csr, LoadReserved, StoreCond, Amo}
use Rattle.rv64_decode.specs.Fields.{AreFields}
use Rattle.ras_bits.specs.Bits.{signed}
use Rattle.ras_bits.specs.BitsLaws.{bit_back}
use Rattle.rv64_decode.specs.Immediates.{unsigned, FitsBits, upper_of_offset, imm_i, imm_s, imm_b, imm_u, imm_j}
use Rattle.rv64_decode.specs.Table.{op_at, op_at_both, branch_funct3, branch_ops, load_funct3, load_ops, store_funct3, store_ops, csr_funct3, csr_ops, alu_functs, alu_ops, imm_functs, imm_funct3, imm_ops, shift_ops, alu_w_functs, alu_w_ops, shift_w_ops, mul_functs, mul_opcode, mul_ops, mul_w_ops, amo_funct5, amo_ops}
use Rattle.rv64_decode.specs.Decoding.{row_of, when, calls, opcodes, lui_row, auipc_row, jal_row, jalr_row, branch_row, load_row, store_row, alu_imm_row, alu_w_imm_row, alu_row, alu_w_row, fence_row, system_row, atomic_row}
use Rattle.rv64_decode.specs.Encoding.{OperandsInRange, IsImm, IsImmW, fields_for, u_format, i_format, atomic_format}
use Rattle.rv64_decode.specs.declared.instr.AluWOp.TheVariants.{Addw}
use Rattle.rv64_decode.proofs.Options.{map_some, or_some, when_some, op_at_some, op_at_both_some, lookup_some}
use Rattle.rv64_decode.proofs.Numbers.{same_fields, unsigned-signed, signed_fits, upper-offset, branch_rd, branch_funct7}

pub record ReadsRow (f : Fields) (i : Instr) : Type 0 where
  pub fields : fields_for i ≡ f
  pub in_range : OperandsInRange i

-- what holds of no operation in particular
abbrev Any : {Op : Type 0} → Op → Type 0
Any op = Unit {0}

lui_reads : (f : Fields) (i : Instr) → AreFields f → f.opcode ≡ 0x37 → lui_row f ≡ Some i → ReadsRow f i
unfolding lui_row
lui_reads f i w o e =
    let is : Lui f.rd (imm_u f) ≡ i = cc in
    subst (ReadsRow f) is (record {
      fields = same_fields _ f (sym o) refl (omega arith) (omega arith) (omega arith) (omega arith);
      in_range = (omega arith, omega arith);
    })

auipc_reads : (f : Fields) (i : Instr) → AreFields f → f.opcode ≡ 0x17 → auipc_row f ≡ Some i → ReadsRow f i
unfolding auipc_row
auipc_reads f i w o e =
    let is : Auipc f.rd (imm_u f) ≡ i = cc in
    subst (ReadsRow f) is (record {
      fields = same_fields _ f (sym o) refl (omega arith) (omega arith) (omega arith) (omega arith);
      in_range = (omega arith, omega arith);
    })

jal_reads : (f : Fields) (i : Instr) → AreFields f → f.opcode ≡ 0x6F → jal_row f ≡ Some i → ReadsRow f i
unfolding jal_row
jal_reads f i w o e =
    let is : Jal f.rd (signed 21 (imm_j f)) ≡ i = cc in
    let upper : imm_u f < 2 ^ 20 = omega arith in
    let small : imm_j f < 2 ^ 21 = omega arith in
    let off : upper_of_offset (unsigned 21 (signed 21 (imm_j f))) ≡ imm_u f = ap upper_of_offset (unsigned-signed 21 (imm_j f) small) ∙ upper-offset (imm_u f) upper in
    subst (ReadsRow f) is (record {
      fields = ap (u_format 0x6F f.rd) off ∙ same_fields _ f (sym o) refl (omega arith) (omega arith) (omega arith) (omega arith);
      in_range = (w.rd, (signed_fits 21 (imm_j f) refl small, ap (λ n. n % 2) (unsigned-signed 21 (imm_j f) small) ∙ omega arith));
    })

jalr_reads : (f : Fields) (i : Instr) → AreFields f → f.opcode ≡ 0x67 → jalr_row f ≡ Some i → ReadsRow f i
unfolding jalr_row
jalr_reads f i w o e =
    let m = when_some (f.funct3 == 0) (Some (Jalr f.rd f.rs1 (signed 12 (imm_i f)))) i e in
    let is : Jalr f.rd f.rs1 (signed 12 (imm_i f)) ≡ i = cc (m.1) in
    let n : f.funct3 ≡ 0 = eqb-true f.funct3 0 m.0 in
    let small : imm_i f < 2 ^ 12 = omega arith in
    let imm : unsigned 12 (signed 12 (imm_i f)) ≡ imm_i f = unsigned-signed 12 (imm_i f) small in
    subst (ReadsRow f) is (record {
      fields = same_fields _ f (sym o) refl (sym n) refl (omega arith) (omega arith);
      in_range = ((omega arith, omega arith, omega arith), signed_fits 12 (imm_i f) refl small);
    })

branch_reads : (f : Fields) (i : Instr) → AreFields f → f.opcode ≡ 0x63 → branch_row f ≡ Some i → ReadsRow f i
unfolding branch_row
branch_reads f i w o e =
    let m = map_some (λ op. Branch op f.rs1 f.rs2 (signed 13 (imm_b f))) (op_at branch_funct3 branch_ops f.funct3) i e in
    let n : branch_funct3 m.0 ≡ f.funct3 = (op_at_some branch_funct3 Any branch_ops f.funct3 m.0 (tt, (tt, (tt, (tt, (tt, (tt, tt)))))) m.1).0 in
    let small : imm_b f < 2 ^ 13 = omega arith in
    let off : unsigned 13 (signed 13 (imm_b f)) ≡ imm_b f = unsigned-signed 13 (imm_b f) small in
    subst (ReadsRow f) m.2 (record {
      fields = same_fields _ f (sym o) (branch_rd f.rd f.funct7 _ w.rd w.funct7 off) n refl refl (branch_funct7 f.rd f.funct7 _ w.rd w.funct7 off);
      in_range = ((omega arith, omega arith, omega arith), (signed_fits 13 (imm_b f) refl small, ap (λ n. n % 2) off ∙ omega arith));
    })

load_reads : (f : Fields) (i : Instr) → AreFields f → f.opcode ≡ 0x03 → load_row f ≡ Some i → ReadsRow f i
unfolding load_row
load_reads f i w o e =
    let m = map_some (λ op. Load op f.rd f.rs1 (signed 12 (imm_i f))) (op_at load_funct3 load_ops f.funct3) i e in
    let n : load_funct3 m.0 ≡ f.funct3 = (op_at_some load_funct3 Any load_ops f.funct3 m.0 (tt, (tt, (tt, (tt, (tt, (tt, (tt, tt))))))) m.1).0 in
    let small : imm_i f < 2 ^ 12 = omega arith in
    let imm : unsigned 12 (signed 12 (imm_i f)) ≡ imm_i f = unsigned-signed 12 (imm_i f) small in
    subst (ReadsRow f) m.2 (record {
      fields = same_fields _ f (sym o) refl n refl (omega arith) (omega arith);
      in_range = ((omega arith, omega arith, omega arith), signed_fits 12 (imm_i f) refl small);
    })

store_reads : (f : Fields) (i : Instr) → AreFields f → f.opcode ≡ 0x23 → store_row f ≡ Some i → ReadsRow f i
unfolding store_row
store_reads f i w o e =
    let m = map_some (λ op. Store op f.rs1 f.rs2 (signed 12 (imm_s f))) (op_at store_funct3 store_ops f.funct3) i e in
    let n : store_funct3 m.0 ≡ f.funct3 = (op_at_some store_funct3 Any store_ops f.funct3 m.0 (tt, (tt, (tt, (tt, tt)))) m.1).0 in
    let small : imm_s f < 2 ^ 12 = omega arith in
    let imm : unsigned 12 (signed 12 (imm_s f)) ≡ imm_s f = unsigned-signed 12 (imm_s f) small in
    subst (ReadsRow f) m.2 (record {
      fields = same_fields _ f (sym o) (omega arith) n refl refl (omega arith);
      in_range = ((omega arith, omega arith, omega arith), signed_fits 12 (imm_s f) refl small);
    })

alu_imm_reads : (f : Fields) (i : Instr) → AreFields f → f.opcode ≡ 0x13 → alu_imm_row f ≡ Some i → ReadsRow f i
unfolding alu_imm_row
alu_imm_reads f i w o e =
    let small : imm_i f < 2 ^ 12 = omega arith in
    let imm : unsigned 12 (signed 12 (imm_i f)) ≡ imm_i f = unsigned-signed 12 (imm_i f) small in
    let fits : FitsBits 12 (signed 12 (imm_i f)) = signed_fits 12 (imm_i f) refl small in
    let amount : (k : ℕ) × (pos (imm_i f % 2 ^ 6) ≡ pos k) × (k < 64) = (imm_i f % 2 ^ 6, refl, omega arith) in
    elim (or_some
    (option_map (λ op. AluImm op f.rd f.rs1 (signed 12 (imm_i f))) (op_at imm_funct3 imm_ops f.funct3))
    (option_map (λ op. AluImm op f.rd f.rs1 (pos (imm_i f % 2 ^ 6))) (op_at_both imm_functs shift_ops (f.funct7 / 2) f.funct3)) i e) [
      | inl l ↦
          let m = map_some (λ op. AluImm op f.rd f.rs1 (signed 12 (imm_i f))) (op_at imm_funct3 imm_ops f.funct3) i l in
          let known = op_at_some imm_funct3 (λ op. IsImm op (signed 12 (imm_i f)) × ((imm_functs op).0 ≡ 0)) imm_ops f.funct3 m.0 ((fits, refl), ((fits, refl), ((fits, refl), ((fits, refl), ((fits, refl), ((fits, refl), tt)))))) m.1 in
          let none : (imm_functs m.0).0 ≡ 0 = known.1.1 in
          subst (ReadsRow f) m.2 (record {
            fields = same_fields _ f (sym o) refl known.0 refl (omega arith) (omega arith);
            in_range = ((omega arith, omega arith, omega arith), known.1.0);
          })
      | inr r ↦
          let m = map_some (λ op. AluImm op f.rd f.rs1 (pos (imm_i f % 2 ^ 6))) (op_at_both imm_functs shift_ops (f.funct7 / 2) f.funct3) i r in
          let known = op_at_both_some imm_functs (λ op. IsImm op (pos (imm_i f % 2 ^ 6))) shift_ops (f.funct7 / 2) f.funct3 m.0 (amount, (amount, (amount, tt))) m.1 in
          let upper : (imm_functs m.0).0 ≡ f.funct7 / 2 = known.0 in
          subst (ReadsRow f) m.2 (record {
            fields = same_fields _ f (sym o) refl known.1 refl (omega arith) (omega arith);
            in_range = ((omega arith, omega arith, omega arith), known.2);
          })
    ]

alu_w_imm_reads : (f : Fields) (i : Instr) → AreFields f → f.opcode ≡ 0x1B → alu_w_imm_row f ≡ Some i → ReadsRow f i
unfolding alu_w_imm_row
alu_w_imm_reads f i w o e =
    let small : imm_i f < 2 ^ 12 = omega arith in
    let imm : unsigned 12 (signed 12 (imm_i f)) ≡ imm_i f = unsigned-signed 12 (imm_i f) small in
    let fits : FitsBits 12 (signed 12 (imm_i f)) = signed_fits 12 (imm_i f) refl small in
    let amount : (k : ℕ) × (pos f.rs2 ≡ pos k) × (k < 32) = (f.rs2, refl, omega arith) in
    elim (or_some
    (when (f.funct3 == 0) (Some (AluWImm Addw f.rd f.rs1 (signed 12 (imm_i f)))))
    (option_map (λ op. AluWImm op f.rd f.rs1 (pos f.rs2)) (op_at_both alu_w_functs shift_w_ops f.funct7 f.funct3)) i e) [
      | inl l ↦
          let m = when_some (f.funct3 == 0) (Some (AluWImm Addw f.rd f.rs1 (signed 12 (imm_i f)))) i l in
          let is : AluWImm Addw f.rd f.rs1 (signed 12 (imm_i f)) ≡ i = cc (m.1) in
          let n : f.funct3 ≡ 0 = eqb-true f.funct3 0 m.0 in
          subst (ReadsRow f) is (record {
            fields = same_fields _ f (sym o) refl (sym n) refl (omega arith) (omega arith);
            in_range = ((omega arith, omega arith, omega arith), fits);
          })
      | inr r ↦
          let m = map_some (λ op. AluWImm op f.rd f.rs1 (pos f.rs2)) (op_at_both alu_w_functs shift_w_ops f.funct7 f.funct3) i r in
          let known = op_at_both_some alu_w_functs (λ op. IsImmW op (pos f.rs2)) shift_w_ops f.funct7 f.funct3 m.0 (amount, (amount, (amount, tt))) m.1 in
          let upper : (alu_w_functs m.0).0 ≡ f.funct7 = known.0 in
          subst (ReadsRow f) m.2 (record {
            fields = same_fields _ f (sym o) refl known.1 refl (omega arith) (omega arith);
            in_range = ((omega arith, omega arith, omega arith), known.2);
          })
    ]

alu_reads : (f : Fields) (i : Instr) → AreFields f → f.opcode ≡ 0x33 → alu_row f ≡ Some i → ReadsRow f i
unfolding alu_row
alu_reads f i w o e =
    elim (or_some
    (option_map (λ op. Alu op f.rd f.rs1 f.rs2) (op_at_both alu_functs alu_ops f.funct7 f.funct3))
    (option_map (λ op. Mul op f.rd f.rs1 f.rs2) (op_at_both mul_functs mul_ops f.funct7 f.funct3)) i e) [
      | inl l ↦
          let m = map_some (λ op. Alu op f.rd f.rs1 f.rs2) (op_at_both alu_functs alu_ops f.funct7 f.funct3) i l in
          let known = op_at_both_some alu_functs Any alu_ops f.funct7 f.funct3 m.0 (tt, (tt, (tt, (tt, (tt, (tt, (tt, (tt, (tt, (tt, tt)))))))))) m.1 in
          subst (ReadsRow f) m.2 (record {
            fields = same_fields _ f (sym o) refl known.1 refl refl known.0;
            in_range = (omega arith, omega arith, omega arith);
          })
      | inr r ↦
          let m = map_some (λ op. Mul op f.rd f.rs1 f.rs2) (op_at_both mul_functs mul_ops f.funct7 f.funct3) i r in
          let known = op_at_both_some mul_functs (λ op. mul_opcode op ≡ 0x33) mul_ops f.funct7 f.funct3 m.0 (refl, (refl, (refl, (refl, (refl, (refl, (refl, (refl, tt)))))))) m.1 in
          subst (ReadsRow f) m.2 (record {
            fields = same_fields _ f (known.2 ∙ sym o) refl known.1 refl refl known.0;
            in_range = (omega arith, omega arith, omega arith);
          })
    ]

alu_w_reads : (f : Fields) (i : Instr) → AreFields f → f.opcode ≡ 0x3B → alu_w_row f ≡ Some i → ReadsRow f i
unfolding alu_w_row
alu_w_reads f i w o e =
    elim (or_some
    (option_map (λ op. AluW op f.rd f.rs1 f.rs2) (op_at_both alu_w_functs alu_w_ops f.funct7 f.funct3))
    (option_map (λ op. Mul op f.rd f.rs1 f.rs2) (op_at_both mul_functs mul_w_ops f.funct7 f.funct3)) i e) [
      | inl l ↦
          let m = map_some (λ op. AluW op f.rd f.rs1 f.rs2) (op_at_both alu_w_functs alu_w_ops f.funct7 f.funct3) i l in
          let known = op_at_both_some alu_w_functs Any alu_w_ops f.funct7 f.funct3 m.0 (tt, (tt, (tt, (tt, (tt, tt))))) m.1 in
          subst (ReadsRow f) m.2 (record {
            fields = same_fields _ f (sym o) refl known.1 refl refl known.0;
            in_range = (omega arith, omega arith, omega arith);
          })
      | inr r ↦
          let m = map_some (λ op. Mul op f.rd f.rs1 f.rs2) (op_at_both mul_functs mul_w_ops f.funct7 f.funct3) i r in
          let known = op_at_both_some mul_functs (λ op. mul_opcode op ≡ 0x3B) mul_w_ops f.funct7 f.funct3 m.0 (refl, (refl, (refl, (refl, (refl, tt))))) m.1 in
          subst (ReadsRow f) m.2 (record {
            fields = same_fields _ f (known.2 ∙ sym o) refl known.1 refl refl known.0;
            in_range = (omega arith, omega arith, omega arith);
          })
    ]

fence_reads : (f : Fields) (i : Instr) → AreFields f → f.opcode ≡ 0x0F → fence_row f ≡ Some i → ReadsRow f i
unfolding fence_row
fence_reads f i w o e =
    let small : imm_i f < 2 ^ 12 = omega arith in
    elim (or_some (when (f.funct3 == 0) (Some (Fence f.rd f.rs1 (imm_i f)))) (when (f.funct3 == 1) (Some (FenceI f.rd f.rs1 (imm_i f)))) i e) [
      | inl l ↦
          let m = when_some (f.funct3 == 0) (Some (Fence f.rd f.rs1 (imm_i f))) i l in
          let is : Fence f.rd f.rs1 (imm_i f) ≡ i = cc (m.1) in
          let n : f.funct3 ≡ 0 = eqb-true f.funct3 0 m.0 in
          subst (ReadsRow f) is (record {
            fields = same_fields _ f (sym o) refl (sym n) refl (omega arith) (omega arith);
            in_range = ((omega arith, omega arith, omega arith), small);
          })
      | inr r ↦
          let m = when_some (f.funct3 == 1) (Some (FenceI f.rd f.rs1 (imm_i f))) i r in
          let is : FenceI f.rd f.rs1 (imm_i f) ≡ i = cc (m.1) in
          let n : f.funct3 ≡ 1 = eqb-true f.funct3 1 m.0 in
          subst (ReadsRow f) is (record {
            fields = same_fields _ f (sym o) refl (sym n) refl (omega arith) (omega arith);
            in_range = ((omega arith, omega arith, omega arith), small);
          })
    ]

system_reads : (f : Fields) (i : Instr) → AreFields f → f.opcode ≡ 0x73 → system_row f ≡ Some i → ReadsRow f i
unfolding system_row
system_reads f i w o e =
    elim (or_some
    (when (f.funct3 == 0 && f.rd == 0) (option_or (when (f.rs1 == 0) (lookup (λ n. n == imm_i f) calls)) (when (f.funct7 == 0x09) (Some (SfenceVma f.rs1 f.rs2)))))
    (option_map (λ op. Csr op f.rd (imm_i f) f.rs1) (op_at csr_funct3 csr_ops f.funct3)) i e) [
      | inl l ↦
          let m = when_some (f.funct3 == 0 && f.rd == 0) (option_or (when (f.rs1 == 0) (lookup (λ n. n == imm_i f) calls)) (when (f.funct7 == 0x09) (Some (SfenceVma f.rs1 f.rs2)))) i l in
          let tests = and_parts (f.funct3 == 0) (f.rd == 0) m.0 in
          let n : f.funct3 ≡ 0 = eqb-true f.funct3 0 tests.0 in
          let rd : f.rd ≡ 0 = eqb-true f.rd 0 tests.1 in
          elim (or_some (when (f.rs1 == 0) (lookup (λ n. n == imm_i f) calls)) (when (f.funct7 == 0x09) (Some (SfenceVma f.rs1 f.rs2))) i m.1) [
            | inl h ↦
                let c = when_some (f.rs1 == 0) (lookup (λ n. n == imm_i f) calls) i h in
                let rs1 : f.rs1 ≡ 0 = eqb-true f.rs1 0 c.0 in
                let called = λ (k : ℕ) (known : k < 2 ^ 12) (is : k ≡ imm_i f).
                let whole : i_format 0x73 0 0 0 k ≡ f = same_fields _ f (sym o) (sym rd) (sym n) (sym rs1) (omega arith) (omega arith) in whole in
                lookup_some (λ k instr. k ≡ imm_i f → ReadsRow f instr) calls (imm_i f) i (
                  (λ is. record { fields = called 0x000 (omega arith) is; in_range = tt }),
                  (
                    (λ is. record { fields = called 0x001 (omega arith) is; in_range = tt }),
                    (
                      (λ is. record { fields = called 0x102 (omega arith) is; in_range = tt }),
                      ((λ is. record { fields = called 0x105 (omega arith) is; in_range = tt }), tt),
                    ),
                  ),
                )
                c.1 refl
            | inr h ↦
                let c = when_some (f.funct7 == 0x09) (Some (SfenceVma f.rs1 f.rs2)) i h in
                let is : SfenceVma f.rs1 f.rs2 ≡ i = cc (c.1) in
                let high : f.funct7 ≡ 0x09 = eqb-true f.funct7 0x09 c.0 in
                subst (ReadsRow f) is (record {
                  fields = same_fields _ f (sym o) (sym rd) (sym n) refl refl (sym high);
                  in_range = (omega arith, omega arith, omega arith);
                })
          ]
      | inr r ↦
          let m = map_some (λ op. Csr op f.rd (imm_i f) f.rs1) (op_at csr_funct3 csr_ops f.funct3) i r in
          let n : csr_funct3 m.0 ≡ f.funct3 = (op_at_some csr_funct3 Any csr_ops f.funct3 m.0 (tt, (tt, (tt, (tt, (tt, (tt, tt)))))) m.1).0 in
          subst (ReadsRow f) m.2 (record {
            fields = same_fields _ f (sym o) refl n refl (omega arith) (omega arith);
            in_range = ((omega arith, omega arith, omega arith), omega arith);
          })
    ]

-- the two widths of an atomic row
width_back : (n : ℕ) → n / 2 ≡ 1 → 2 + from_bool (n == 3) ≡ n
width_back zero h = absurd (omega arith)
width_back (suc zero) h = absurd (omega arith)
width_back (suc (suc zero)) h = refl
width_back (suc (suc (suc zero))) h = refl
width_back (suc (suc (suc (suc n)))) h = absurd (omega arith)

atomic_fields : (f : Fields) (number rs2 : ℕ) → AreFields f → f.opcode ≡ 0x2F → f.funct3 / 2 ≡ 1 → number ≡ f.funct7 / 4 → rs2 ≡ f.rs2
    → atomic_format number (f.funct3 == 3) (f.funct7 / 2 % 2 == 1) (f.funct7 % 2 == 1) f.rd f.rs1 rs2 ≡ f
atomic_fields f number rs2 w o width is same =
    let aq : from_bool (f.funct7 / 2 % 2 == 1) ≡ f.funct7 / 2 % 2 = bit_back (f.funct7 / 2 % 2) (omega arith) in
    let rl : from_bool (f.funct7 % 2 == 1) ≡ f.funct7 % 2 = bit_back (f.funct7 % 2) (omega arith) in
    same_fields _ f (sym o) refl (width_back f.funct3 width) refl same (omega arith)

atomic_reads : (f : Fields) (i : Instr) → AreFields f → f.opcode ≡ 0x2F → atomic_row f ≡ Some i → ReadsRow f i
unfolding atomic_row
atomic_reads f i w o e =
    let wide = f.funct3 == 3 in
    let aq = f.funct7 / 2 % 2 == 1 in
    let rl = f.funct7 % 2 == 1 in
    let amo_part = option_map (λ op. Amo op wide aq rl f.rd f.rs1 f.rs2) (op_at amo_funct5 amo_ops (f.funct7 / 4)) in
    let lr_part = when (f.funct7 / 4 == 0x02 && f.rs2 == 0) (Some (LoadReserved wide aq rl f.rd f.rs1)) in
    let sc_part = when (f.funct7 / 4 == 0x03) (Some (StoreCond wide aq rl f.rd f.rs1 f.rs2)) in
    let w2 = when_some (f.funct3 / 2 == 1) (option_or amo_part (option_or lr_part sc_part)) i e in
    let width : f.funct3 / 2 ≡ 1 = eqb-true (f.funct3 / 2) 1 w2.0 in
    elim (or_some amo_part (option_or lr_part sc_part) i w2.1) [
      | inl l ↦
          let m = map_some (λ op. Amo op wide aq rl f.rd f.rs1 f.rs2) (op_at amo_funct5 amo_ops (f.funct7 / 4)) i l in
          let n : amo_funct5 m.0 ≡ f.funct7 / 4 = (op_at_some amo_funct5 Any amo_ops (f.funct7 / 4) m.0 (tt, (tt, (tt, (tt, (tt, (tt, (tt, (tt, (tt, tt))))))))) m.1).0 in
          subst (ReadsRow f) m.2 (record { fields = atomic_fields f (amo_funct5 m.0) f.rs2 w o width n refl; in_range = (omega arith, omega arith, omega arith) })
      | inr r ↦ elim (or_some lr_part sc_part i r) [
        | inl l ↦
            let m = when_some (f.funct7 / 4 == 0x02 && f.rs2 == 0) (Some (LoadReserved wide aq rl f.rd f.rs1)) i l in
            let tests = and_parts (f.funct7 / 4 == 0x02) (f.rs2 == 0) m.0 in
            let is : LoadReserved wide aq rl f.rd f.rs1 ≡ i = cc (m.1) in
            subst (ReadsRow f) is (record {
              fields = atomic_fields f 0x02 0 w o width (sym (eqb-true _ _ tests.0)) (sym (eqb-true _ _ tests.1));
              in_range = (omega arith, omega arith, omega arith);
            })
        | inr h ↦
            let m = when_some (f.funct7 / 4 == 0x03) (Some (StoreCond wide aq rl f.rd f.rs1 f.rs2)) i h in
            let is : StoreCond wide aq rl f.rd f.rs1 f.rs2 ≡ i = cc (m.1) in
            subst (ReadsRow f) is (record {
              fields = atomic_fields f 0x03 f.rs2 w o width (sym (eqb-true _ _ m.0)) refl;
              in_range = (omega arith, omega arith, omega arith);
            })
      ]
    ]

pub row_reads : (f : Fields) (i : Instr) → AreFields f → row_of f ≡ Some i → ReadsRow f i
unfolding row_of
row_reads f i w e =
    option_and_then_some (λ row. row f) (lookup (λ opcode. opcode == f.opcode) opcodes) i e
    (λ r found read.
    lookup_some (λ k r. f.opcode ≡ k → r f ≡ Some i → ReadsRow f i) opcodes f.opcode r
    (lui_reads f i w, (auipc_reads f i w, (jal_reads f i w, (jalr_reads f i w, (branch_reads f i w, (load_reads f i w, (store_reads f i w, (alu_imm_reads f i w, (alu_w_imm_reads f i w, (alu_reads f i w, (alu_w_reads f i w, (fence_reads f i w, (system_reads f i w, (atomic_reads f i w, tt))))))))))))))
    found refl read)
