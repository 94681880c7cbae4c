-- What a profile of the code says.
use Rattle.rules.specs.Profile as rules
use Rattle.rules.specs.State.{used}
use Rattle.profile.specs.declared.Profile.{Profile}

abbrev pub profile_of : Profile → rules.Profile
profile_of p = record {
  bus = p.bus;
  longest = p.longest;
  page = p.page;
  size = p.size;
  offset = p.offset;
  hardware = p.hardware;
  compatible = p.compatible;
  actual = p.actual;
  version = p.version;
  serial = used p.seriallen p.serial;
}
