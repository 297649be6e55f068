-- The lines of records and of information records, each with its LF.
use Rattle.std.specs.Prelude.{ℕ, List, [], ◌∷◌, ◌++◌, codes}
use Rattle.std.specs.Fmt.{decimal, signed_decimal}
use Rattle.fan_fid.specs.Infos.{IdentParts, InfoParts}
use Rattle.fan_fid.specs.Infos.InfoParts.{fid, dfid, dfid_name, other}
use Rattle.fan_record.specs.Records.{RecordParts}
use Rattle.fan_text.specs.Spelling.{hex, hex_text}

-- two hexadecimal digits for each byte, and a dash where there is none
abbrev pub bytes_text : List ℕ → List ℕ
bytes_text [] = codes "-"
bytes_text (byte ∷ bytes) = hex_text (byte ∷ bytes)

-- the line of a record: its mask, its descriptor and its process
unfoldable pub event_text : RecordParts → List ℕ
event_text event =
    codes "event " ++ hex event.mask ++ codes " fd " ++ signed_decimal event.fd
    ++ codes " pid " ++ signed_decimal event.pid ++ 10 ∷ []

-- a file or directory
unfoldable pub ident_text : IdentParts → List ℕ
ident_text ident =
    codes "fsid " ++ bytes_text ident.fsid ++ codes " type " ++ signed_decimal ident.handle_type
    ++ codes " handle " ++ bytes_text ident.handle

-- the line of an information record
unfoldable pub info_text : InfoParts → List ℕ
info_text (fid ident) = codes "fid " ++ ident_text ident ++ 10 ∷ []
info_text (dfid ident) = codes "dfid " ++ ident_text ident ++ 10 ∷ []
info_text (dfid_name ident name) =
    codes "dfid_name " ++ ident_text ident ++ codes " name " ++ bytes_text name ++ 10 ∷ []
info_text (other kind bytes) = codes "info " ++ decimal kind ++ codes " " ++ bytes_text bytes ++ 10 ∷ []

-- the lines of information records
abbrev pub infos_text : List InfoParts → List ℕ
infos_text [] = []
infos_text (info ∷ infos) = info_text info ++ infos_text infos

-- the line that names the place of what is no record
unfoldable pub bad_text : ℕ → List ℕ
bad_text at = codes "bad record at " ++ decimal at ++ 10 ∷ []
