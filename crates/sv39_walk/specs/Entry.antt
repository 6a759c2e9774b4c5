-- A page-table entry, and why an access may not use it (privileged manual, "Sv39"; "Virtual Address Translation Process", steps 3
-- to 7, and "Memory Privilege in sstatus").
use Rattle.std.specs.Prelude.{ℕ, ◌*◌, ◌%◌, ◌^◌, ◌==◌, Bool, false, not, ◌&&◌, ◌||◌}
use Rattle.ras_bits.specs.Bits.{has_bit}
use Rattle.ras_bits.specs.Fields.{field}
use Rattle.ras_bits.specs.declared.terms.Mode.{Mode}
use Rattle.ras_bits.specs.declared.terms.Mode.TheVariants.{User, Supervisor}
use Rattle.ras_bits.specs.declared.terms.Access.{Access}
use Rattle.ras_bits.specs.declared.terms.Access.TheVariants.{Fetch, Load, Store}
use Rattle.sv39_walk.specs.declared.request.Request.{Request}

-- ---- the bits of an entry

-- V
abbrev pub is_valid : ℕ → Bool
is_valid entry = has_bit entry 0

-- R
abbrev pub is_readable : ℕ → Bool
is_readable entry = has_bit entry 1

-- W
abbrev pub is_writable : ℕ → Bool
is_writable entry = has_bit entry 2

-- X
abbrev pub is_executable : ℕ → Bool
is_executable entry = has_bit entry 3

-- U
abbrev pub is_for_user : ℕ → Bool
is_for_user entry = has_bit entry 4

-- A
abbrev pub is_accessed : ℕ → Bool
is_accessed entry = has_bit entry 6

-- D
abbrev pub is_dirty : ℕ → Bool
is_dirty entry = has_bit entry 7

-- the physical page number (PPN), bits 53:10
abbrev pub page_number : ℕ → ℕ
page_number entry = field entry 10 44

-- how many bytes a page has, and so a table
abbrev pub page_bytes : ℕ
page_bytes = 4096

-- ---- the causes of a page fault at an entry of any kind

-- V is clear
unfoldable pub is_invalid : ℕ → Bool
is_invalid entry = not (is_valid entry)

-- W without R is reserved
unfoldable pub is_writable_only : ℕ → Bool
is_writable_only entry = is_writable entry && not (is_readable entry)

-- one of bits 63:54 is set
unfoldable pub has_reserved_bits : ℕ → Bool
has_reserved_bits entry = not (field entry 54 10 == 0)

-- it is no entry of any table
unfoldable pub is_malformed : ℕ → Bool
is_malformed entry = is_invalid entry || is_writable_only entry || has_reserved_bits entry

-- ---- at a pointer to the next table

-- R and X are clear: it points to a table
unfoldable pub is_pointer : ℕ → Bool
is_pointer entry = not (is_readable entry) && not (is_executable entry)

-- A, D or U is set, which are reserved in a pointer
unfoldable pub has_leaf_bits : ℕ → Bool
has_leaf_bits entry = is_accessed entry || is_dirty entry || is_for_user entry

-- ---- at a leaf

-- its page begins at no multiple of the size that a page of this level has
unfoldable pub is_misaligned_superpage : ℕ → ℕ → Bool
is_misaligned_superpage level entry = not (page_number entry % 2 ^ (9 * level) == 0)

-- a fetch needs X, a load R or with MXR also X, a store W
abbrev pub lacks_permission_for : Access → Bool → ℕ → Bool
lacks_permission_for Fetch mxr entry = not (is_executable entry)
lacks_permission_for Load mxr entry = not (is_readable entry) && not (mxr && is_executable entry)
lacks_permission_for Store mxr entry = not (is_writable entry)

-- the page doesn't permit this kind of access
unfoldable pub lacks_permission : Request → ℕ → Bool
lacks_permission request entry = lacks_permission_for request.kind request.mxr entry

-- U mode needs U; S mode fetches from no page with U, and loads and stores there only with SUM
abbrev pub is_outside_mode_for : Mode → Access → Bool → ℕ → Bool
is_outside_mode_for User kind sum entry = not (is_for_user entry)
is_outside_mode_for Supervisor Fetch sum entry = is_for_user entry
is_outside_mode_for Supervisor Load sum entry = is_for_user entry && not sum
is_outside_mode_for Supervisor Store sum entry = is_for_user entry && not sum

-- the page isn't one for this mode
unfoldable pub is_outside_mode : Request → ℕ → Bool
is_outside_mode request entry = is_outside_mode_for request.mode request.kind request.sum entry

-- A is clear
unfoldable pub is_not_accessed : ℕ → Bool
is_not_accessed entry = not (is_accessed entry)

-- D is clear, which counts for a store
abbrev pub is_not_dirty_for : Access → ℕ → Bool
is_not_dirty_for Fetch entry = false
is_not_dirty_for Load entry = false
is_not_dirty_for Store entry = not (is_dirty entry)

-- a store to a page whose D is clear
unfoldable pub is_not_dirty : Request → ℕ → Bool
is_not_dirty request entry = is_not_dirty_for request.kind entry

-- a leaf of this level that the access may not use
unfoldable pub denies : Request → ℕ → ℕ → Bool
denies request level entry =
    is_misaligned_superpage level entry
    || lacks_permission request entry
    || is_outside_mode request entry
    || is_not_accessed entry
    || is_not_dirty request entry
