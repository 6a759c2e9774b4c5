-- The register file as plain numbers.
use Rattle.std.specs.Prelude.{◌*◌, ◌==◌, Bool, ◌&&◌, Option, Some, None, if◌then◌else◌}
use Rattle.rv64_csr.specs.declared.parts.CsrParts.{CsrParts}
use Rattle.rv64_csr.specs.declared.table.Register.TheVariants.{Sie, Stvec, Scounteren, Sepc}
use Rattle.rv64_csr.specs.Table.{holds}
use Rattle.std.specs.Int.{from_bool}
use Rattle.ras_bits.specs.Bits.{has_bit}
use Rattle.rv64_csr.specs.Status.{sstatus_of, status_from}
use Rattle.rv64_csr.specs.Csrs.{CsrFile, has_known_mode}

-- the numbers of a register file
abbrev pub parts_of : CsrFile → CsrParts
parts_of file = record {
  sstatus = sstatus_of file.status;
  sie = file.sie;
  stvec = file.stvec;
  scounteren = file.scounteren;
  sscratch = file.sscratch;
  sepc = file.sepc;
  scause = file.scause;
  stval = file.stval;
  ssip = from_bool file.ssip * 2;
  satp = file.satp;
  timer = file.timer;
  retired = file.retired;
}

-- the register file with these numbers, where each is held
abbrev pub csr_file_of : CsrParts → CsrFile
csr_file_of parts = record {
  status = status_from parts.sstatus;
  sie = parts.sie;
  stvec = parts.stvec;
  scounteren = parts.scounteren;
  sscratch = parts.sscratch;
  sepc = parts.sepc;
  scause = parts.scause;
  stval = parts.stval;
  ssip = has_bit parts.ssip 1;
  satp = parts.satp;
  timer = parts.timer;
  retired = parts.retired;
}

-- each field is a value that its register can hold
abbrev pub is_held : CsrParts → Bool
is_held parts =
    (sstatus_of (status_from parts.sstatus) == parts.sstatus)
    && holds Sie parts.sie
    && holds Stvec parts.stvec
    && holds Scounteren parts.scounteren
    && holds Sepc parts.sepc
    && (from_bool (has_bit parts.ssip 1) * 2 == parts.ssip)
    && has_known_mode parts.satp

-- the register file of these numbers, none where a register can't hold its number
unfoldable pub file_from : CsrParts → Option CsrFile
file_from parts = if is_held parts then Some (csr_file_of parts) else None
