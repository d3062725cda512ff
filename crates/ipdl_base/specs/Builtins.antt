-- The names of the builtin types, and which of them a channel carries.
use Rattle.std.specs.Prelude.{ℕ, Bool, true, false, List, codes}
use Rattle.ipdl_base.specs.declared.builtin.Builtin.{Builtin}
use Rattle.ipdl_base.specs.declared.builtin.Builtin.TheVariants as builtin

-- the word by which a type names a builtin
abbrev pub builtin_name : Builtin → List ℕ
builtin_name builtin.Bool = codes "bool"
builtin_name builtin.Char = codes "char"
builtin_name builtin.Int8 = codes "int8_t"
builtin_name builtin.Uint8 = codes "uint8_t"
builtin_name builtin.Short = codes "short"
builtin_name builtin.Int16 = codes "int16_t"
builtin_name builtin.Uint16 = codes "uint16_t"
builtin_name builtin.Int = codes "int"
builtin_name builtin.Int32 = codes "int32_t"
builtin_name builtin.Uint32 = codes "uint32_t"
builtin_name builtin.NsResult = codes "nsresult"
builtin_name builtin.Long = codes "long"
builtin_name builtin.Int64 = codes "int64_t"
builtin_name builtin.IntPtr = codes "intptr_t"
builtin_name builtin.Uint64 = codes "uint64_t"
builtin_name builtin.UintPtr = codes "uintptr_t"
builtin_name builtin.Float = codes "float"
builtin_name builtin.Double = codes "double"
builtin_name builtin.NsString = codes "nsString"
builtin_name builtin.NsCString = codes "nsCString"
builtin_name builtin.ByteBuf = codes "ByteBuf"
builtin_name builtin.Shmem = codes "Shmem"
builtin_name builtin.FileDescriptor = codes "FileDescriptor"

-- whether a channel carries values of the type
abbrev pub is_carried : Builtin → Bool
is_carried builtin.Shmem = false
is_carried builtin.FileDescriptor = false
is_carried _ = true
