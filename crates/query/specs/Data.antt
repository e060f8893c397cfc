-- The initial data of the two kinds that the bench carries: each number is 0.
use Rattle.query.specs.declared.contact_data.TouchRecord.{TouchRecord}
use Rattle.query.specs.declared.contact_data.ServiceTally.{ServiceTally}

abbrev pub touch_initial : TouchRecord
touch_initial = record { first = 0; second = 0 }

abbrev pub tally_initial : ServiceTally
tally_initial = record { strikes = 0; oilings = 0 }
