mod SampleFits
