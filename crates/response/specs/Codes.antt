-- The code of a reply's status.
use Rattle.std.specs.Prelude.{ℕ}
use Rattle.rules.specs.Responses.{ok, command_not_supported, invalid_transfer, invalid_crc, invalid_arguments}
use Rattle.response.specs.declared.Status.{Status}
use Rattle.response.specs.declared.Status.TheVariants as status

abbrev pub status_code : Status → ℕ
status_code status.Ok = ok
status_code status.CommandNotSupported = command_not_supported
status_code status.InvalidTransfer = invalid_transfer
status_code status.InvalidCrc = invalid_crc
status_code status.InvalidArguments = invalid_arguments
