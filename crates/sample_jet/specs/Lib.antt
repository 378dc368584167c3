pub mod SampleJet
